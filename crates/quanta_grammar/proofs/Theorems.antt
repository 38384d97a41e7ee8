-- THE THEOREMS at Quanta's grammar: this page states and cites, and proves nothing itself.
-- Assumes nothing.
use mathlib.Core.Path.{◌≡◌, subst}
use mathlib.Core.Bool.{◌&&◌}
use mathlib.Core.List.{List, [], append-nil}
use mathlib.Core.Logic.{◌↔◌}
use Prim.Native.Nat.{ℕ, ◌+◌, ◌-◌, ◌≤◌, ◌<◌}
use native.Mathlib.Omega.{arith}
use lib.Dec.{T, leb}
use lib.ListN.{length}
use Rattle.grammar.specs.Grammar.{Tok, next, has, fare, yield, measure, Lawful, Spells}
use Rattle.grammar.specs.Records.{Rec, tree_of, nodes}
use Rattle.grammar.specs.Reader.{got, bad, Refusal, use', refuse, pick, refusal, spot, put_node, parts, step}
use Rattle.grammar.specs.Facts.{Derives, shut, full, seated, Spaced, Within, Tallied, OwnTokens, owning, Counted}
use Rattle.grammar.proofs.Halves as Halves
use Rattle.grammar.proofs.Sound as Sound
use Rattle.grammar.proofs.Fix as Fix
use Rattle.grammar.proofs.Steps as Steps
use Rattle.grammar.proofs.Complete as Complete
use Rattle.grammar.proofs.Unique as Unique
use Rattle.grammar.proofs.Count as Count
use Rattle.grammar.proofs.Spans as Spans
use Rattle.grammar.proofs.Owns as Owns
use Rattle.grammar.proofs.OwnTokens as Own
use Rattle.grammar.proofs.Tally as Tally
use Rattle.grammar.proofs.Numbers as Numbers
use Rattle.grammar.proofs.Whole as Whole
use Rattle.grammar.proofs.Seeds.{bare, lawful}
use Rattle.quanta_token.specs.TokenKind.{code, Eof}
use Rattle.quanta_token.specs.declared.edition.Edition.TheVariants.{One, Two}
use Rattle.quanta_grammar.specs.RefusalKind.{refusal_code, expected_token, too_deep, token_after_the_end}
use Rattle.quanta_grammar.specs.Productions.{Symbol, Production, grammar, Derivation, outs}
use Rattle.quanta_grammar.specs.Guides.{guide}
use Rattle.quanta_grammar.specs.Names.{names}
use Rattle.quanta_grammar.specs.Reading.{toll, allowance, terms, plan, Call, parse}
use Rattle.quanta_grammar.specs.OwnTokens.{own_kinds}
use Rattle.quanta_grammar.specs.Refine.{Plain, Text, text, text_kind, kinds, closed, classify, refine, marking}
use Rattle.quanta_grammar.specs.Refine.{accept, answer, Derived}
use Rattle.quanta_grammar.specs.Before.{kind_before, refine_before, parse_before, answer_before, DerivesBefore}
use Rattle.quanta_grammar.specs.Complaint.{Complaint}
use Rattle.quanta_grammar.proofs.Tables.{fronts, follows, low, ok, cheap, shape, sane}
use Rattle.quanta_grammar.proofs.Tables.{owned_ok, rightly, whole_ok}
use Rattle.quanta_grammar.proofs.Calls.{ends, by_itself}
use Rattle.quanta_grammar.proofs.Calls as Calls
use Rattle.quanta_grammar.proofs.Refined as Refined
use Rattle.quanta_grammar.proofs.Editions as Editions

-- Reading is one step over reading ..
pub fix : (s : Symbol) (a : ℕ) (ts : List Tok) → parse s a ts ≡ step grammar toll terms plan parse s a ts
fix = Fix.fix grammar names toll terms plan low

-- .. and the step goes one of three ways.
pub takes : (s : Symbol) (p : Production s) (a : ℕ) (ts : List Tok) → pick (guide s) (next ts) ≡ use' p → fare (toll s p) ≤ a → parse s a ts ≡ put_node p (parts terms plan parse (grammar.parts s p) (a - fare (toll s p)) ts)
takes = Steps.takes_it grammar toll terms plan names low

pub spent : (s : Symbol) (p : Production s) (a : ℕ) (ts : List Tok) → pick (guide s) (next ts) ≡ use' p → a < fare (toll s p) → parse s a ts ≡ bad (refusal (refusal_code too_deep) (spot (toll s p) ts))
spent = Steps.too_deep grammar toll terms plan names low

pub refuses : (s : Symbol) (n a : ℕ) (ts : List Tok) → pick (guide s) (next ts) ≡ refuse n → parse s a ts ≡ bad (refusal n ts)
refuses = Steps.refuses_it grammar toll terms plan names low

-- SOUNDNESS: a derivation that is given spells what was taken, measures at most the allowance, and is lawful.
pub sound : (s : Symbol) (a : ℕ) (ts : List Tok) (d : Derivation s) (r : List Tok) → parse s a ts ≡ got d r → Spells grammar ts (yield d) r × (measure toll d ≤ a) × Lawful terms d r
sound = Sound.sound_at grammar toll terms plan

-- COMPLETENESS: a lawful derivation that measures at most the allowance is given, before a token that may follow it.
pub complete : {s : Symbol} (d : Derivation s) (a : ℕ) {ts r : List Tok} → Spells grammar ts (yield d) r → measure toll d ≤ a → Lawful terms d r → T (has (follows s) (next r)) → parse s a ts ≡ got d r
complete = Complete.complete grammar toll terms plan fronts follows names low ok

-- UNIQUENESS: of what a call reads there is one derivation, whatever its measure, with or without the target rule, and
-- whichever `>>` it takes in halves.
pub unique : {s : Symbol} → Call s → (d e : Derivation s) {ts : List Tok} → Spells grammar ts (yield d) []
    → Spells grammar ts (yield e) [] → d ≡ e
unique c d e = Unique.unique grammar toll (bare grammar) plan fronts follows names low ok d e (ends c) (lawful d []) (lawful e [])

-- A CALL ACCEPTS exactly the token lists with a derivation that measures at most the allowance and whose targets are lawful, and gives that derivation.
pub accepts : {s : Symbol} → Call s → (a : ℕ) (d : Derivation s) (ts : List Tok) → (parse s a ts ≡ got d []) ↔ Derives toll terms a ts d
accepts c a d ts = (Unique.accepted grammar toll terms plan fronts follows names low ok a d ts, Unique.accepts grammar toll terms plan fronts follows names low ok a d ts (ends c))

-- NOTHING IS LEFT OVER on acceptance, where Eof is the last token and no other.
pub whole : {s : Symbol} → Call s → (a : ℕ) (ts : List Tok) → T (shut (code Eof) ts) → (d : Derivation s) (r : List Tok) → parse s a ts ≡ got d r → r ≡ []
whole {s} c = Whole.whole grammar names (code Eof) s (Calls.closed c) toll terms plan

-- A REFUSAL has a number from 12 to 22.
pub number : (s : Symbol) (a : ℕ) (ts : List Tok) (e : Refusal) → parse s a ts ≡ bad e → T (leb (refusal_code expected_token) e.number && leb e.number (refusal_code token_after_the_end))
number = Numbers.number grammar toll terms plan names (λ n. leb (refusal_code expected_token) n && leb n (refusal_code token_after_the_end)) tt (λ s d. tt)

-- RECORDS never outnumber the derivation's tokens, the halves not counted ..
pub few : {s : Symbol} (d : Derivation s) → length (nodes outs d) ≤ full grammar.half (yield d)
few = Count.few grammar names outs cheap

-- .. so they never outnumber the tokens that it takes.
pub fewer : {s : Symbol} (d : Derivation s) {ts r : List Tok} → Spells grammar ts (yield d) r
    → length (nodes outs d) + length r ≤ length ts
fewer d x = omega (arith, few d, Halves.spells_length x)

-- Each record's count is the number of its children.
pub tallied : {s : Symbol} (d : Derivation s) → Tallied (tree_of outs d)
tallied = Tally.tallied outs

-- OWN TOKENS: each record's is one of the derivation's tokens, of a kind that document 01 says.
pub own_tokens : {s : Symbol} (d : Derivation s) → OwnTokens own_kinds (yield d) (tree_of outs d)
own_tokens = Own.own_tokens own_kinds grammar names outs rightly

-- .. and so one of the tokens that it takes, since no own token is a half.
pub own_tokens_of : {s : Symbol} (d : Derivation s) {ts r : List Tok} → Spells grammar ts (yield d) r
    → OwnTokens own_kinds ts (tree_of outs d)
own_tokens_of d x = Own.taken grammar own_kinds whole_ok x (tree_of outs d) (own_tokens d)

-- Where tokens are counted from 0, no two records share an own token, and each own token is one of the derivation's:
pub distinct : {s : Symbol} (d : Derivation s) {ts r : List Tok} → Spells grammar ts (yield d) r → Counted 0 ts
    → (n : ℕ) → owning n (nodes outs d) ≤ 1
distinct = Owns.distinct grammar names outs owned_ok

pub inside : {s : Symbol} (d : Derivation s) {ts r : List Tok} → Spells grammar ts (yield d) r → Counted 0 ts → (n : ℕ) → 1 ≤ owning n (nodes outs d) → n < length ts
inside = Owns.inside grammar names outs owned_ok

-- .. since a place is some record's own token at most as often as it is the place of a token that is no half.
pub owns : {s : Symbol} (d : Derivation s) (n : ℕ) → owning n (nodes outs d) ≤ seated grammar.half n (yield d)
owns = Owns.owns grammar names outs owned_ok

-- NESTING AND ORDER: where the tokens' spans stand in order, each child's span lies inside its parent's, and siblings stand in order without overlap.
pub nested : {s : Symbol} → Call s → (d : Derivation s) (lo hi : ℕ) → Spaced lo hi (yield d) → Within lo hi (tree_of outs d)
nested c d = Spans.nested grammar names outs shape sane d (by_itself c)

-- .. and so where the tokens that it takes stand in order.
pub nests : {s : Symbol} → Call s → (d : Derivation s) (lo hi : ℕ) {ts : List Tok} → Spells grammar ts (yield d) []
    → Spaced lo hi ts → Within lo hi (tree_of outs d)
nests c d lo hi x h =
    nested c d lo hi
    (subst (λ (us : List Tok). Spaced lo hi us) (append-nil (yield d)) (Halves.spells_spaced lo hi x h))

-- A CALL'S ANSWER to the lexer's tokens: it gives the records of the derivation, where there is one.
pub answers : {s : Symbol} → Call s → (src : Text) (ts : List Plain) → T (closed ts) → (d : Derivation s) → Derives toll terms allowance (refine src ts) d → answer s src ts ≡ accept (nodes outs d)
answers = Refined.answers

pub answered : {s : Symbol} → Call s → (src : Text) (ts : List Plain) → T (closed ts) → (rs : List Rec) → answer s src ts ≡ accept rs → Derived s src ts rs
answered = Refined.answered

-- EDITION 1 IS AS BEFORE there were editions: a token has the kind of before, and so have all ..
pub edition_one_kinds : (bytes : List ℕ) (t : Plain) → text_kind (text One bytes) t ≡ kind_before bytes t
edition_one_kinds = Editions.one_kind

pub edition_one_tokens : (bytes : List ℕ) (ts : List Plain) → refine (text One bytes) ts ≡ refine_before bytes ts
edition_one_tokens = Editions.one_refine

-- .. reads as the reader of before, which takes each token whole ..
pub edition_one_reads : (s : Symbol) (a : ℕ) (bytes : List ℕ) (ts : List Plain) → T (kinds ts)
    → parse s a (refine (text One bytes) ts) ≡ parse_before s a (refine_before bytes ts)
edition_one_reads = Editions.one_reads

-- .. so answers as before; and a derivation derives the tokens that it spells one by one, and no others.
pub edition_one_answers : (s : Symbol) (bytes : List ℕ) (ts : List Plain) → T (kinds ts)
    → answer s (text One bytes) ts ≡ answer_before s bytes ts
edition_one_answers = Editions.one_answers

pub edition_one_derives : {s : Symbol} (a : ℕ) (bytes : List ℕ) (ts : List Plain) → T (kinds ts) → (d : Derivation s)
    → Derives toll terms a (refine (text One bytes) ts) d ↔ DerivesBefore a (refine_before bytes ts) d
edition_one_derives a bytes ts h d = (Editions.one_derives a bytes ts h d, Editions.derives_one a bytes ts d)

-- THE EDITIONS: what edition 1 accepts of the lexer's tokens edition 2 accepts, with the same records ..
pub accepted_too : {s : Symbol} → Call s → (bytes : List ℕ) (ts : List Plain) → T (kinds ts) → T (closed ts) → (rs : List Rec) → answer s (text One bytes) ts ≡ accept rs → answer s (text Two bytes) ts ≡ accept rs
accepted_too = Editions.accepted_too

-- .. so what both accept has the same records in both.
pub same_records : {s : Symbol} → Call s → (bytes : List ℕ) (ts : List Plain) → T (kinds ts) → T (closed ts)
    → (rs rs' : List Rec) → answer s (text One bytes) ts ≡ accept rs → answer s (text Two bytes) ts ≡ accept rs'
    → rs ≡ rs'
same_records = Editions.same_records

-- THE PLACE OF A COMPLAINT (R-14), in edition 1: where a call refuses by 12 to 19 or 22, the tokens before the marked
-- one begin a sentence, and with it none.
pub complaint : {s : Symbol} → Call s → (bytes : List ℕ) (ts : List Plain) → T (kinds ts) → (e : Refusal) → parse s allowance (refine (text One bytes) ts) ≡ bad e → T (marking e.number) → Complaint s (classify (text One bytes) 0 ts) e
complaint = Refined.complained
