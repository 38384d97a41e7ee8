-- The two editions from bytes on: what edition 1 accepts is read the same in edition 2, or stops at a Date that is no day.
-- Assumes nothing.
use Rattle.std.specs.Prelude.{Option, Some, None, Result, Ok, Err}
use mathlib.Core.Path.{◌≡◌, refl, ap, sym, subst, ◌∙◌}
use mathlib.Core.Bool.{Bool, true, false}
use mathlib.Core.List.{List}
use mathlib.Core.Logic.{◌⊎◌, inl, inr, ⊎_elim}
use Prim.Native.Nat.{ℕ, ◌/◌}
use native.Mathlib.Omega.{arith}
use lib.Dec.{T, ltb, leb, le→leb}
use lib.ListN.{length, replicate}
use Rattle.utf8.specs.Utf8.{first_bad}
use Rattle.quanta_token.specs.TokenKind.{code, Eof}
use Rattle.quanta_token.specs.declared.edition.Edition.{Edition}
use Rattle.quanta_token.specs.declared.edition.Edition.TheVariants.{One, Two}
use Rattle.quanta_source.specs.Source.{checked}
use Rattle.quanta_source.specs.declared.source.Fault.{Fault}
use Rattle.quanta_source.specs.declared.source.Fault.TheVariants.{CarriageReturn, Barred}
use Rattle.quanta_words.specs.Words.{bad_in}
use Rattle.quanta_lexer.specs.FirstNoDay.{AllDays, FirstNoDay}
use Rattle.quanta_lexer.specs.Promise.{InOrder, eof, more}
use Rattle.quanta_lexer.specs.Refusals.{refusal, bad_table, long_source, no_day, source_limit, table_limit}
use Rattle.quanta_lexer.specs.Tokens.{Tok, Read, Lexing, read_of, lex_all}
use Rattle.quanta_lexer.specs.Tokenizing.{or_else, well_or, clean_or, reading as reading_of, in_room as in_room_of, tokenizing}
use Rattle.quanta_lexer.specs.Tokenizing.{Answer as OfBytes}
use Rattle.quanta_lexer.specs.declared.refusal.Refusal.{Refusal}
use Rattle.quanta_lexer.specs.declared.refusal.Failure.TheVariants.{Refused, Short}
use Rattle.quanta_lexer.proofs.Theorems.{accepted, zeros_after_refusal, both_editions, same_answers}
use Rattle.grammar.proofs.Table.{and_intro}
use Rattle.quanta_grammar.specs.Productions.{Symbol}
use Rattle.quanta_grammar.specs.Reading.{Call}
use Rattle.quanta_grammar.specs.Refine.{text, kinds, Answer as OfTokens, accept, reject, answer}
use Rattle.quanta_grammar.proofs.Theorems.{accepted_too}
use Rattle.quanta_reading.specs.declared.answer.Failure.TheVariants.{Lexical}
use Rattle.quanta_reading.specs.Reading.{Answer, counted, Reading, in_room, parsed, lexed, records_of, answering, reading}
use Rattle.quanta_reading.proofs.TokenWords.{closes}

-- THE TESTS 1 TO 5 do not know the edition: where they let a count of tokens through, they let anything through
module _ (s t : List ℕ) where
  abbrev gate : Read → Read
  gate x =
      or_else (ltb table_limit (length t)) (Err (refusal bad_table table_limit table_limit))
      (or_else (ltb (bad_in t) (length t)) (Err (refusal bad_table (bad_in t) (bad_in t)))
      (or_else (ltb source_limit (length s)) (Err (refusal long_source source_limit source_limit))
      (well_or (first_bad s) (clean_or (checked s) x))))

  gated : (ed : Edition) → reading_of ed s t ≡ gate (read_of (lex_all ed s t))
  unfolding reading_of
  gated ed = refl

  -- the lexer stops
  abbrev Stops : OfBytes → Type 0
  Stops (Ok n) = ⊥
  Stops (Err (Refused r)) = Unit {0}
  Stops (Err (Short n)) = Unit {0}

  -- a count of tokens
  abbrev Counts : Read → Type 0
  Counts (Ok n) = Unit {0}
  Counts (Err r) = ⊥

  by_test : (b : Bool) (r : Refusal) (x y : Read) → Counts (or_else b (Err r) x)
      → Counts x × (or_else b (Err r) y ≡ y)
  unfolding or_else
  by_test true r x y c = absurd c
  by_test false r x y c = (c, refl)

  by_checked : (f : Result Unit Fault) (x y : Read) → Counts (clean_or f x) → Counts x × (clean_or f y ≡ y)
  unfolding clean_or
  by_checked (Err (CarriageReturn i)) x y c = absurd c
  by_checked (Err (Barred i)) x y c = absurd c
  by_checked (Ok u) x y c = (c, refl)

  by_found : (f : Option ℕ) (x y : Read) → Counts (well_or f x) → Counts x × (well_or f y ≡ y)
  unfolding well_or
  by_found (Some i) x y c = absurd c
  by_found None x y c = (c, refl)

  open_gate : (x y : Read) → Counts (gate x) → gate y ≡ y
  open_gate x y c =
      let well : Read → Read = λ x. well_or (first_bad s) (clean_or (checked s) x) in
      let short : Read → Read = λ x.
      or_else (ltb source_limit (length s)) (Err (refusal long_source source_limit source_limit)) (well x) in
      let formed : Read → Read = λ x.
      or_else (ltb (bad_in t) (length t)) (Err (refusal bad_table (bad_in t) (bad_in t))) (short x) in
      let a = by_test (ltb table_limit (length t)) (refusal bad_table table_limit table_limit) (formed x) (formed y) c in
      let b = by_test (ltb (bad_in t) (length t)) (refusal bad_table (bad_in t) (bad_in t)) (short x) (short y) a.0 in
      let d = by_test (ltb source_limit (length s)) (refusal long_source source_limit source_limit) (well x) (well y) b.0 in
      let f = by_found (first_bad s) (clean_or (checked s) x) (clean_or (checked s) y) d.0 in
      let g = by_checked (checked s) x y f.0 in
      a.1 ∙ b.1 ∙ d.1 ∙ f.1 ∙ g.1

  counts_if : (words n : ℕ) (x : Read) → in_room_of words x ≡ Ok n → Counts x
  counts_if words n (Ok m) e = tt
  counts_if words n (Err r) e = absurd (subst Stops e tt)

  -- so edition 2 stops where its tokens do
  stopped : (words n : ℕ) (r : Refusal) → tokenizing One s t words ≡ Ok n → read_of (lex_all Two s t) ≡ Err r
      → tokenizing Two s t words ≡ Err (Refused r)
  unfolding tokenizing
  stopped words n r h f =
      let c : Counts (gate (read_of (lex_all One s t))) = subst Counts (gated One) (counts_if words n (reading_of One s t) h) in
      ap (in_room_of words) (gated Two ∙ open_gate (read_of (lex_all One s t)) (read_of (lex_all Two s t)) c ∙ f)

-- tokens in order have the lexer's kinds
pub in_range : (b i : ℕ) (ts : List Tok) → InOrder b i ts → T (kinds ts)
in_range b i ts (eof a p q) = tt
in_range b i ts (more k a e {ts = us} lo hi p q r o) = and_intro (leb k (code Eof)) (kinds us) (le→leb k (code Eof) (omega arith))
    (in_range b e us o)

abbrev Refuses : Answer → Type 0
Refuses (Ok c) = ⊥
Refuses (Err f) = Unit {0}

-- WHAT EDITION 1 ACCEPTS
module _ {s : Symbol} (c : Call s) (source table : List ℕ) (tokens tree : ℕ) where
  abbrev toks : Edition → List Tok
  toks ed = (lex_all ed source table).toks

  abbrev given : Edition → OfTokens
  given ed = answer s (text ed source) (toks ed)

  -- accepted: the lexer's count, and the grammar's records
  abbrev Meant : Answer → Type 0
  Meant (Ok c) = (tokenizing One source table tokens ≡ Ok c.tokens) × (given One ≡ accept (records_of (given One)))
  Meant (Err f) = Unit {0}

  by_room : (b : Bool) (n m : ℕ) → tokenizing One source table tokens ≡ Ok n → given One ≡ accept (records_of (given One)) → Meant (in_room b n m)
  by_room true n m h e = tt
  by_room false n m h e = (h, e)

  by_tokens : (n : ℕ) (o : OfTokens) → given One ≡ o → tokenizing One source table tokens ≡ Ok n → Meant (parsed (tree / 6) n o)
  by_tokens n (accept rs) e h = by_room (ltb (tree / 6) (length rs)) n (length rs) h (e ∙ ap (λ (o : OfTokens). accept (records_of o)) (sym e))
  by_tokens n (reject k a b w f) e h = tt

  by_lexer : (x : OfBytes) → tokenizing One source table tokens ≡ x → Meant (lexed x (λ n. parsed (tree / 6) n (given One)))
  by_lexer (Ok n) h = by_tokens n (given One) refl h
  by_lexer (Err (Refused r)) h = tt
  by_lexer (Err (Short n)) h = tt

  meant : Meant (reading One s source table tokens tree).answer
  unfolding reading answering
  meant = by_lexer (tokenizing One source table tokens) refl

  module _ (n m : ℕ) (e : (reading One s source table tokens tree).answer ≡ counted n m) where
    one : (tokenizing One source table tokens ≡ Ok n) × (given One ≡ accept (records_of (given One)))
    one = subst Meant e meant

    -- the grammar's answer in edition 2 on the same tokens
    too : lex_all Two source table ≡ lex_all One source table → given Two ≡ given One
    too h =
        let p = (accepted One source table tokens n one.0).0.ordered in
        ap (λ (x : Lexing). answer s (text Two source) x.toks) h
        ∙ accepted_too c source (toks One) (in_range (length source) 0 (toks One) p) (closes (length source) 0 (toks One) p)
        (records_of (given One)) one.1
        ∙ sym one.1

    -- every Date is a day
    alike : AllDays source (toks One) → lex_all Two source table ≡ lex_all One source table
        → reading Two s source table tokens tree ≡ reading One s source table tokens tree
    unfolding reading answering
    alike d h =
        let l = same_answers source table tokens d in
        let a : answering Two s source table tokens tree ≡ answering One s source table tokens tree =
        ap (λ (x : OfBytes). lexed x (λ n. parsed (tree / 6) n (given Two))) l.0
        ∙ ap (λ (o : OfTokens). lexed (tokenizing One source table tokens) (λ n. parsed (tree / 6) n o)) (too h) in
        let w = l.1 in
        let r = ap records_of (too h) in
        rw (a, w, r) refl

    -- or one is none
    halts : (x : FirstNoDay source (lex_all One source table) (lex_all Two source table)) → reading Two s source table tokens tree
        ≡ record { answer = Err (Lexical (refusal no_day x.start x.stop)); tokens = replicate tokens 0; tree = replicate tree 0 }
    unfolding reading answering read_of
    halts x =
        let z = stopped source table tokens n (refusal no_day x.start x.stop) one.0 (ap read_of x.stops) in
        let w = zeros_after_refusal Two source table tokens no_day x.start x.stop z in
        rw (w, z) refl

    pub both : (AllDays source (toks One) × (reading Two s source table tokens tree ≡ reading One s source table tokens tree))
        ⊎ ((x : FirstNoDay source (lex_all One source table) (lex_all Two source table)) × (reading Two s source table tokens tree
        ≡ record { answer = Err (Lexical (refusal no_day x.start x.stop)); tokens = replicate tokens 0; tree = replicate tree 0 }))
    both = ⊎_elim (λ x. inl (x.0, alike x.0 x.1)) (λ x. inr (x, halts x)) (both_editions source table)

    -- what both accept
    pub same : (n₂ m₂ : ℕ) → (reading Two s source table tokens tree).answer ≡ counted n₂ m₂
        → reading Two s source table tokens tree ≡ reading One s source table tokens tree
    same n₂ m₂ f =
        let refuses : (a b : ℕ) → Err (Lexical (refusal no_day a b)) ≡ counted n₂ m₂ → ⊥ = λ a b e. subst Refuses e tt in
        ⊎_elim (λ x. x.1)
        (λ x. absurd (refuses x.0.start x.0.stop (sym (ap (λ (x : Reading). x.answer) x.1) ∙ f))) both
