-- A source as its tokens, and tokens as records in a buffer.
use Rattle.std.specs.Prelude.{ℕ, zero, suc, ◌+◌, ◌*◌, cond, List, [], ◌∷◌, ◌≡◌, length, set, leb}
use Rattle.std.specs.Prelude.{Some, None, Result, Ok, Err}
use Rattle.quanta_token.specs.declared.edition.Edition.{Edition}
use Rattle.quanta_token.specs.Token.{Token as TokenOf}
use Rattle.quanta_token.specs.TokenKind.{code, Eof}
use Rattle.quanta_lexer.specs.Refusals.{refusal}
use Rattle.quanta_lexer.specs.Scan.{Lexed, token_at}
use Rattle.quanta_lexer.specs.Trivia.{trivia_end}
use Rattle.quanta_lexer.specs.declared.refusal.Refusal.{Refusal}

-- a token
abbrev pub Tok : Type 0
Tok = TokenOf

abbrev pub tok : ℕ → ℕ → ℕ → Tok
tok k a e = record { kind = k; start = a; stop = e }

-- how a reading ends: at the end of the source, or at a refusal with its number and span
pub data Ending : Type 0 where
  done : Ending
  refused : ℕ → ℕ → ℕ → Ending

pub record Lexing : Type 0 where
  pub toks : List Tok
  pub ending : Ending

-- a token and the rest from its end; Eof at the end of the source; nothing after a refusal
abbrev pub go_on : (ℕ → Lexing) → ℕ → Lexed → Lexing
go_on rest i (Ok (Some x)) =
    record { toks = tok x.kind x.start.0 x.end.0 ∷ (rest x.end.0).toks; ending = (rest x.end.0).ending }
go_on rest i (Ok None) = record { toks = tok (code Eof) i i ∷ []; ending = done }
go_on rest i (Err r) = record { toks = []; ending = refused r.number r.start r.end }

-- the tokens from i on, at most n; the bound is never met, since a source has no more tokens than bytes and one
unfoldable pub lex_from : Edition → ℕ → List ℕ → List ℕ → ℕ → Lexing
lex_from ed zero s t i = record { toks = []; ending = refused 0 i i }
lex_from ed (suc n) s t i = go_on (λ e. lex_from ed n s t e) (trivia_end s i) (token_at ed s t (trivia_end s i))

-- the tokens of a source s under a word table t, up to Eof or the first failing token
unfoldable pub lex_all : Edition → List ℕ → List ℕ → Lexing
lex_all ed s t = lex_from ed (suc (length s)) s t 0

-- the number of tokens, or the first refusal
abbrev pub Read : Type 0
Read = Result ℕ Refusal

abbrev pub read_for : ℕ → Ending → Read
read_for n done = Ok n
read_for n (refused k a e) = Err (refusal k a e)

unfoldable pub read_of : Lexing → Read
read_of l = read_for (length l.toks) l.ending

-- the tokens' records, three words each
abbrev pub records : List Tok → List ℕ
records [] = []
records (t ∷ ts) = t.kind ∷ t.start ∷ t.stop ∷ records ts

-- a buffer with the records at its front, as far as whole records have room
unfoldable pub put : List Tok → List ℕ → List ℕ
put [] b = b
put (t ∷ ts) [] = []
put (t ∷ ts) (x ∷ []) = x ∷ []
put (t ∷ ts) (x ∷ y ∷ []) = x ∷ y ∷ []
put (t ∷ ts) (x ∷ y ∷ z ∷ b) = t.kind ∷ t.start ∷ t.stop ∷ put ts b

-- what the reading of the tokens answers, and the buffer before and after it
abbrev pub Ran : Edition → List ℕ → List ℕ → List ℕ → List ℕ → Read → Type 0
Ran ed s t before after r = (r ≡ read_of (lex_all ed s t)) × (after ≡ put (lex_all ed s t).toks before)

-- a buffer with one record more, after n, if it has room
unfoldable pub store : ℕ → Tok → List ℕ → List ℕ
store n t b =
    cond (leb (3 * n + 3) (length b))
    (set (set (set b (3 * n) t.kind) (3 * n + 1) t.start) (3 * n + 2) t.stop)
    b
