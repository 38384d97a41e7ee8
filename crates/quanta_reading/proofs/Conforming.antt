-- The five calls at once: whichever way a call goes, it conforms.
-- Assumes nothing.
use Rattle.std.specs.Prelude.{Err, Ok, Result}
use mathlib.Core.Path.{◌≡◌, refl, ap, sym, subst, ◌∙◌}
use mathlib.Core.List.{List, []}
use Prim.Native.Nat.{ℕ, ◌+◌, ◌*◌, ◌/◌, ◌≤◌}
use native.Mathlib.Omega.{arith}
use lib.Dec.{ltb}
use lib.ListN.{length, take, replicate}
use Rattle.quanta_token.specs.declared.edition.Edition.{Edition}
use Rattle.grammar.specs.Grammar.{Tok as GTok}
use Rattle.grammar.specs.Records.{Acc, Rec, records as records_in, fresh, nodes}
use Rattle.grammar.specs.Reader.{Res}
use Rattle.grammar.specs.Fused.{Outcome}
use Rattle.quanta_lexer.specs.Refusals.{source_limit}
use Rattle.quanta_lexer.specs.Tokens.{Tok, records, lex_all}
use Rattle.quanta_lexer.specs.Tokenizing.{tokenizing, token_words}
use Rattle.quanta_lexer.specs.Tokenizing.{Answer as OfBytes}
use Rattle.quanta_lexer.specs.declared.refusal.Failure.{Failure as NoTokens}
use Rattle.quanta_lexer.proofs.Theorems.{accepted, accepted_small}
use Rattle.quanta_grammar.specs.Productions.{Symbol, Derivation}
use Rattle.quanta_grammar.specs.Reading.{allowance, reads, Call as IsCall, program, item, stmt, expr, type}
use Rattle.quanta_grammar.specs.Refine.{Text, text, Answer as OfTokens, accept, reject, answer_of, answer, refine}
use Rattle.quanta_grammar.proofs.Steps.{comes, fails}
use Rattle.quanta_cursor.specs.declared.parser.Refusal.{Refusal}
use Rattle.quanta_cursor.specs.Tokens.{from, Ready}
use Rattle.quanta_cursor.specs.Tree.{lay}
use Rattle.quanta_cursor.specs.Answers.{Failed}
use Rattle.quanta_parser.specs.declared.whole.Call.{Call}
use Rattle.quanta_parser.specs.declared.whole.Call.TheVariants.{Program, Item, Stmt, Expr, «Type»}
use Rattle.quanta_parser.specs.Whole.{symbol_of, TookWhole, AnswersWhole, ReadsWhole}
use Rattle.quanta_reading.specs.Reading.{Answer, failure_of, in_room, parsed, lexed, records_of, tree_words, answering, reading, Conforms}
use Rattle.quanta_reading.specs.Finish.{ended, kept}
use Rattle.quanta_reading.proofs.TokenWords.{length_records, from_all, ready, fronts}
use Rattle.quanta_reading.proofs.Laying.{kept_is}
use Rattle.quanta_cursor.specs.declared.parser.Node.{Node}

-- what a call reads is one of the calls of document 01
pub call_of : (c : Call) → IsCall (symbol_of c)
call_of Program = program
call_of Item = item
call_of Stmt = stmt
call_of Expr = expr
call_of «Type» = type

-- WHAT A WHOLE READING ANSWERS is what the grammar answers: its records ..
pub record Rows (s : Symbol) (src : Text) (ts : List Tok) (t : List ℕ) (n : ℕ) (t' : List ℕ) : Type 0 where
  pub rows : List Rec
  pub given : answer s src ts ≡ accept rows
  pub words : t' ≡ lay t 0 rows
  pub many : n ≡ length rows

took_rows : (s : Symbol) (src : Text) (ts : List Tok) (t : List ℕ) (n : ℕ) (t' : List ℕ) → TookWhole (reads s allowance (refine src ts) fresh) t n t' → Rows s src ts t n t'
unfolding answer nodes
took_rows s src ts t n t' k =
    let z = comes s allowance (refine src ts) fresh k.acc [] k.gave in
    record {
      rows = records_in k.acc.row;
      given = ap (λ (q : Res (Derivation s)). answer_of q) z.reading ∙ ap (λ (y : Acc). accept (records_in y.row)) z.leaving;
      words = k.laid.words;
      many = k.laid.next ∙ omega arith;
    }

-- .. or its refusal
abbrev rejected : Refusal → OfTokens
rejected e = reject e.number e.span.start e.span.end e.wanted e.found

failed_rows : (s : Symbol) (src : Text) (ts : List Tok) (e : Refusal) → Failed (reads s allowance (refine src ts) fresh) e → answer s src ts ≡ rejected e
unfolding answer
failed_rows s src ts e f = ap (λ (q : Res (Derivation s)). answer_of q) (fails s allowance (refine src ts) fresh f.refusal f.gave) ∙ ap rejected (sym f.says)

module _ (ed : Edition) (s : Symbol) (source table : List ℕ) (words : ℕ) where
  abbrev toks : List Tok
  toks = (lex_all ed source table).toks

  conforms : (tree : ℕ) {r : Answer} {tokens' tree' : List ℕ} → r ≡ answering ed s source table words tree → tokens' ≡ token_words ed source table words
      → tree' ≡ tree_words tree (records_of (answer s (text ed source) toks)) r → Conforms ed s source table words tree r tokens' tree'
  unfolding reading
  conforms tree e p q = record { answers = e; tokened = p; treed = q ∙ ap (λ (a : Answer). tree_words tree (records_of (answer s (text ed source) toks)) a) e }

  answering_as : (tree : ℕ) (x : OfBytes) → x ≡ tokenizing ed source table words → lexed x (λ n. parsed (tree / 6) n (answer s (text ed source) toks)) ≡ answering ed s source table words tree
  unfolding answering
  answering_as tree x e = ap (λ (x : OfBytes). lexed x (λ n. parsed (tree / 6) n (answer s (text ed source) toks))) e

  -- 1 to 10 and 28, and 11
  pub lexical : (tree : ℕ) {x : OfBytes} {f : NoTokens} {r : Answer} {tokens' tree' : List ℕ} → x ≡ tokenizing ed source table words → x ≡ Err f
      → r ≡ Err (failure_of f) → tokens' ≡ token_words ed source table words → tree' ≡ replicate tree 0
      → Conforms ed s source table words tree r tokens' tree'
  lexical tree {f = f} z x i p q =
      conforms tree (i ∙ answering_as tree (Err f) (sym x ∙ z)) p
      (q ∙ ap (λ (r : Answer). tree_words tree (records_of (answer s (text ed source) toks)) r) (sym i))

  module _ {x : OfBytes} {n : ℕ} (z : x ≡ tokenizing ed source table words) (a : x ≡ Ok n) {tokens' : List ℕ} (p : tokens' ≡ token_words ed source table words) where
    front : take (3 * n) tokens' ≡ records toks
    front = ap (λ (l : List ℕ). take (3 * n) l) p ∙ fronts ed source table words n (sym z ∙ a)

    -- the lexer's words are what the parser relies on
    pub stands : Ready (take (3 * n) tokens') 0 0
    stands = subst (λ (ws : List ℕ). Ready ws 0 0) (sym front) (ready source toks n (accepted ed source table words n (sym z ∙ a)).0)

    -- there is room for them, and their length is known
    pub room : 3 * n ≤ words
    room = omega (arith, (accepted ed source table words n (sym z ∙ a)).1)

    pub small : n ≤ source_limit + 1
    small = accepted_small ed source table words n (sym z ∙ a)

    pub cut : 3 * n ≡ length (take (3 * n) tokens')
    cut = omega (arith, ap length front, length_records toks, (accepted ed source table words n (sym z ∙ a)).0.counted)

    by_answer : (t t₁ t₂ : List ℕ) (q : Result Node Refusal) (r : Answer) → AnswersWhole (reads s allowance (refine (text ed source) toks) fresh) t q t₁ → length t₁ ≡ length t
        → r ≡ ended (length t₁) n q → t₂ ≡ kept t₁ (ended (length t₁) n q) → Conforms ed s source table words (length t) r tokens' t₂
    by_answer t t₁ t₂ (Ok m) r k l e f =
        let y = took_rows s (text ed source) toks t m.no.0 t₁ k in
        let b = ltb (length t / 6) (length y.rows) in
        let j : ended (length t₁) n (Ok m) ≡ in_room b n (length y.rows) =
        ap (λ (h : ℕ). in_room (ltb (h / 6) m.no.0) n m.no.0) l ∙ ap (λ (h : ℕ). in_room (ltb (length t / 6) h) n h) y.many in
        let i = ap (λ (o : OfTokens). parsed (length t / 6) n o) y.given in
        conforms (length t) (e ∙ j ∙ sym i ∙ answering_as (length t) (Ok n) (sym a ∙ z)) p
        (f ∙ ap (kept t₁) j ∙ kept_is t t₁ n y.rows b refl y.words
        ∙ ap (λ (o : OfTokens). tree_words (length t) (records_of o) (in_room b n (length y.rows))) (sym y.given)
        ∙ ap (λ (r : Answer). tree_words (length t) (records_of (answer s (text ed source) toks)) r) (sym (e ∙ j)))
    by_answer t t₁ t₂ (Err u) r k l e f =
        let y = failed_rows s (text ed source) toks u k in
        let i = ap (λ (o : OfTokens). parsed (length t / 6) n o) y in
        conforms (length t) (e ∙ sym i ∙ answering_as (length t) (Ok n) (sym a ∙ z)) p
        (f ∙ ap (λ (h : ℕ). replicate h 0) l ∙ ap (λ (r : Answer). tree_words (length t) (records_of (answer s (text ed source) toks)) r) (sym e))

    -- 0, and 12 to 23
    pub whole : {t t₁ t₂ : List ℕ} (q : Result Node Refusal) {r : Answer} → ReadsWhole (text ed source) s (take (3 * n) tokens') t q t₁ → length t₁ ≡ length t
        → (r ≡ ended (length t₁) n q) × (t₂ ≡ kept t₁ (ended (length t₁) n q)) → Conforms ed s source table words (length t) r tokens' t₂
    whole {t} {t₁} {t₂} q {r} m l e =
        by_answer t t₁ t₂ q r
        (subst (λ (o : Outcome). AnswersWhole o t q t₁) (ap (λ (ts : List GTok). reads s allowance ts fresh) (ap (λ (ws : List ℕ). from (text ed source) ws 0) front ∙ from_all (text ed source) toks)) m.by)
        l e.0 e.1
