-- What conforms is faithful.
-- Assumes nothing.
use Rattle.std.specs.Prelude.{Option, Some, None, Result, Ok, Err}
use mathlib.Core.Path.{◌≡◌, refl, ap, sym, subst, ◌∙◌}
use mathlib.Core.Bool.{Bool, true, false}
use mathlib.Core.List.{List, [], ◌++◌}
use Prim.Native.Nat.{ℕ, ◌+◌, ◌-◌, ◌*◌, ◌/◌, ◌≤◌}
use native.Mathlib.Omega.{arith}
use borrow.Author.Tests.{le-ltb}
use lib.Dec.{ltb}
use lib.ListN.{length, replicate}
use Rattle.quanta_token.specs.declared.edition.Edition.{Edition}
use Rattle.grammar.specs.Records.{Rec, nodes}
use Rattle.grammar.specs.Facts.{Spaced}
use Rattle.utf8.specs.Utf8.{first_bad}
use Rattle.quanta_source.specs.Source.{checked}
use Rattle.quanta_source.specs.declared.source.Fault.{Fault}
use Rattle.quanta_source.specs.declared.source.Fault.TheVariants.{CarriageReturn, Barred}
use Rattle.quanta_words.specs.Words.{bad_in}
use Rattle.quanta_lexer.specs.Promise.{InOrder}
use Rattle.quanta_lexer.specs.Refusals.{source_limit, table_limit}
use Rattle.quanta_lexer.specs.Tokens.{Tok, Read, Ending, done, refused, read_for, read_of, lex_all}
use Rattle.quanta_lexer.specs.Tokenizing.{or_else, well_or, clean_or, reading as reading_of, room_for, in_room as in_room_of, tokenizing}
use Rattle.quanta_lexer.specs.Tokenizing.{Answer as OfBytes}
use Rattle.quanta_lexer.specs.declared.refusal.Failure.TheVariants.{Refused, Short}
use Rattle.quanta_lexer.proofs.PromiseLaws.{in_order, promised}
use Rattle.quanta_grammar.specs.Productions.{Symbol, outs}
use Rattle.quanta_grammar.specs.Reading.{Call}
use Rattle.quanta_grammar.specs.Refine.{text, Answer as OfTokens, accept, reject, answer}
use Rattle.quanta_grammar.proofs.Theorems.{unique, fewer, tallied, own_tokens_of, distinct, nests, answers, answered}
use Rattle.quanta_grammar.proofs.Refined.{counted as numbered, spaced}
use Rattle.quanta_reading.specs.Reading.{Answer, counted, in_room, parsed, lexed, records_of, record_words, tree_words, answering, reading, Conforms}
use Rattle.quanta_reading.proofs.TokenWords.{closes, orders, length_refine}
use Rattle.quanta_reading.proofs.Targets.{lawful_targets}
use Rattle.quanta_reading.specs.Demand3.{Enough, Valid, tokens_of, Sentence, Exact, Faithful}

-- THE LEXER'S PART
module _ (ed : Edition) (s t : List ℕ) where
  -- where tokens are counted, the text is valid
  abbrev Told : Read → Type 0
  Told (Ok n) = Valid ed s t
  Told (Err r) = Unit {0}

  by_test : (b : Bool) (x y : Read) → Told x → Told y → Told (or_else b x y)
  unfolding or_else
  by_test true x y p q = p
  by_test false x y p q = q

  by_ending : first_bad s ≡ None → checked s ≡ Ok tt → (x : Ending) → (lex_all ed s t).ending ≡ x → Told (read_for (length (lex_all ed s t).toks) x)
  by_ending u c done e = record { utf8 = u; clean = c; scanned = e }
  by_ending u c (refused k a b) e = tt

  by_source : first_bad s ≡ None → (x : Result Unit Fault) → checked s ≡ x → Told (clean_or x (read_of (lex_all ed s t)))
  unfolding clean_or read_of
  by_source u (Err (CarriageReturn i)) e = tt
  by_source u (Err (Barred i)) e = tt
  by_source u (Ok v) e = by_ending u e (lex_all ed s t).ending refl

  by_bytes : (x : Option ℕ) → first_bad s ≡ x → Told (well_or x (clean_or (checked s) (read_of (lex_all ed s t))))
  unfolding well_or
  by_bytes (Some i) e = tt
  by_bytes None e = by_source e (checked s) refl

  told : Told (reading_of ed s t)
  unfolding reading_of
  told =
      by_test (ltb table_limit (length t)) _ _ tt
      (by_test (ltb (bad_in t) (length t)) _ _ tt
      (by_test (ltb source_limit (length s)) _ _ tt
      (by_bytes (first_bad s) refl)))

  abbrev Said : OfBytes → Type 0
  Said (Ok n) = Valid ed s t
  Said (Err (Refused r)) = Unit {0}
  Said (Err (Short n)) = Unit {0}

  by_room : (b : Bool) (n : ℕ) → Valid ed s t → Said (room_for b n)
  by_room true n v = tt
  by_room false n v = v

  by_read : (words : ℕ) (x : Read) → Told x → Said (in_room_of words x)
  by_read words (Ok n) v = by_room (ltb (words / 3) n) n v
  by_read words (Err r) v = tt

  said : (words : ℕ) → Said (tokenizing ed s t words)
  unfolding tokenizing
  said words = by_read words (reading_of ed s t) told

  valid : (words n : ℕ) → tokenizing ed s t words ≡ Ok n → Valid ed s t
  valid words n e = subst Said e (said words)

-- .. and a valid text is read, where there is room
module _ (ed : Edition) (s t : List ℕ) (words tree : ℕ) (g : Enough s t words tree) (v : Valid ed s t) where
  abbrev toks : List Tok
  toks = (lex_all ed s t).toks

  ordered : InOrder (length s) 0 toks
  ordered = in_order ed s t v.scanned

  many : length toks ≤ length s + 1
  many = (promised ed s t (length toks) g.limited v.scanned refl).few

  read : tokenizing ed s t words ≡ Ok (length toks)
  unfolding tokenizing reading_of or_else well_or clean_or read_of
  read =
      rw (
        le-ltb table_limit (length t) g.short,
        le-ltb (bad_in t) (length t) (omega (arith, g.formed)),
        le-ltb source_limit (length s) g.limited,
        v.utf8,
        v.clean,
        v.scanned,
        le-ltb (words / 3) (length toks) (omega (arith, many, g.token_room)),
      )

-- THE CALL
module _ (ed : Edition) {s : Symbol} (c : Call s) (source table : List ℕ) (words tree : ℕ) (g : Enough source table words tree) where
  -- what is accepted is a sentence
  abbrev Meant : Answer → Type 0
  Meant (Ok c) = Sentence ed s source table
  Meant (Err f) = Unit {0}

  by_derived : (rs : List Rec) → Valid ed source table → answer s (text ed source) (lex_all ed source table).toks ≡ accept rs → Sentence ed s source table
  by_derived rs v e =
      let d = answered c (text ed source) (lex_all ed source table).toks (closes (length source) 0 (lex_all ed source table).toks (in_order ed source table v.scanned)) rs e in
      record { valid = v; derivation = d.tree; spells = d.derives.spells; targets = (lawful_targets d.tree []).0 d.derives.lawful; measured = d.derives.small }

  by_tree : (b : Bool) (n m : ℕ) → Sentence ed s source table → Meant (in_room b n m)
  by_tree true n m x = tt
  by_tree false n m x = x

  by_tokens : (n : ℕ) (o : OfTokens) → Valid ed source table → answer s (text ed source) (lex_all ed source table).toks ≡ o → Meant (parsed (tree / 6) n o)
  by_tokens n (accept rs) v e = by_tree (ltb (tree / 6) (length rs)) n (length rs) (by_derived rs v e)
  by_tokens n (reject k a b w f) v e = tt

  by_lexer : (x : OfBytes) → tokenizing ed source table words ≡ x → Meant (lexed x (λ n. parsed (tree / 6) n (answer s (text ed source) (lex_all ed source table).toks)))
  by_lexer (Ok n) e = by_tokens n (answer s (text ed source) (lex_all ed source table).toks) (valid ed source table words n e) refl
  by_lexer (Err (Refused r)) e = tt
  by_lexer (Err (Short n)) e = tt

  meant : Meant (answering ed s source table words tree)
  unfolding answering
  meant = by_lexer (tokenizing ed source table words) refl

  module _ (x : Sentence ed s source table) where
    abbrev rows : List Rec
    rows = nodes outs x.derivation

    abbrev toks' : List Tok
    toks' = (lex_all ed source table).toks

    -- a sentence is answered by its records, and there is room for them
    given : answer s (text ed source) toks' ≡ accept rows
    given =
        answers c (text ed source) toks' (closes (length source) 0 toks' (ordered ed source table words tree g x.valid)) x.derivation
        (record { spells = x.spells; small = x.measured; lawful = (lawful_targets x.derivation []).1 x.targets })

    fits : length rows ≤ tree / 6
    fits =
        let a = fewer x.derivation x.spells in
        let b = length_refine (text ed source) 0 toks' in
        omega (arith, a, b, many ed source table words tree g x.valid, g.tree_room)

    accepts : answering ed s source table words tree ≡ counted (length toks') (length rows)
    unfolding answering
    accepts =
        ap (λ (o : OfBytes). lexed o (λ n. parsed (tree / 6) n (answer s (text ed source) toks'))) (read ed source table words tree g x.valid)
        ∙ ap (λ (o : OfTokens). parsed (tree / 6) (length toks') o) given
        ∙ ap (λ (b : Bool). in_room b (length toks') (length rows)) (le-ltb (tree / 6) (length rows) fits)

    tree_words_lem : tree_words tree (records_of (answer s (text ed source) toks')) (answering ed s source table words tree) ≡ record_words rows ++ replicate (tree - 6 * length rows) 0
    tree_words_lem = ap (λ (o : OfTokens). tree_words tree (records_of o) (answering ed s source table words tree)) given ∙ ap (tree_words tree rows) accepts

    spans : Spaced 0 (length source) (tokens_of ed source table)
    spans = (spaced (text ed source) toks' 0 (length source) (orders (length source) 0 toks' (ordered ed source table words tree g x.valid)))

  pub exact : {r : Answer} {tokens' tree' : List ℕ} → Conforms ed s source table words tree r tokens' tree' → Exact ed s source table tree r tree'
  unfolding reading
  exact f =
      record {
        exactly = (λ a. subst Meant (sym f.answers ∙ a.2) meant, λ x. (length (lex_all ed source table).toks, length (rows x), f.answers ∙ accepts x));
        only = λ d e p q. unique c d e p q;
        counts = λ x. f.answers ∙ accepts x;
        yields = λ x. f.treed ∙ tree_words_lem x;
        nested = λ x. nests c x.derivation 0 (length source) x.spells (spans x);
        tallied = λ x. tallied x.derivation;
        owned = λ x. own_tokens_of x.derivation x.spells;
        distinct = λ x. distinct x.derivation x.spells (numbered (text ed source) (lex_all ed source table).toks);
      }

-- A CALL THAT CONFORMS IS FAITHFUL
pub faithful : {s : Symbol} → Call s → {ed : Edition} {source table : List ℕ} {words tree : ℕ} {r : Answer} {tokens' tree' : List ℕ} → Conforms ed s source table words tree r tokens' tree'
    → Conforms ed s source table words tree r tokens' tree' × Faithful ed s source table words tree r tree'
faithful c {ed} {source} {table} {words} {tree} f = (f, λ g. exact ed c source table words tree g f)
