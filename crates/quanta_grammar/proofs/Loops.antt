-- What code proofs cite of the symbols that are read by loops: the levels of an expression, by one law; suffixes; lists.
-- Assumes nothing.
use mathlib.Core.Path.{◌≡◌, refl, ap, subst, sym, ◌∙◌}
use mathlib.Core.Bool.{Bool, not}
use mathlib.Core.List.{List, [], ◌∷◌, ◌++◌}
use Prim.Native.Nat.{ℕ, ◌-◌, ◌<◌, ◌≤◌, zero-le}
use native.Mathlib.Omega.{arith}
use native.Mathlib.Nat.{sub-zero}
use lib.Dec.{T}
use lib.ListN.{length}
use Rattle.grammar.specs.Grammar.{Tok, head, next, one, sub, has, Toll, free, before, behind, fare}
use Rattle.grammar.specs.Records.{Acc, Leaf, nothing, own, word, pass, fold, Reach, apart, widens, Step, make, Mark, fresh, leave, beside, finish}
use Rattle.grammar.specs.Reader.{Refusal, use', miss, refusal, spot}
use Rattle.grammar.specs.Fused.{Outcome, left, refused}
use Rattle.grammar.proofs.Fuse.{onward, onward_left, onward_onward, fits}
use Rattle.grammar.proofs.Lines.{mark, cond_yes, cond_no, fit_yes, unminded, stays, stay}
use Rattle.grammar.proofs.Loops.{front, onward_same}
use Rattle.grammar.proofs.Loops as Loops
use Rattle.quanta_token.specs.TokenKind.{code, codes, Contract, Import, Comma, Dot, LParen}
use Rattle.quanta_grammar.specs.NodeKind.{node_code, binary_node}
use Rattle.quanta_grammar.specs.RefusalKind.{refusal_code, too_deep}
use Rattle.quanta_grammar.specs.Productions.{Level, Symbol, Production, grammar, outs, operators, operand}
use Rattle.quanta_grammar.specs.Productions.{logic_or, logic_and, equality, comparison, shift, additive, multiplicative}
use Rattle.quanta_grammar.specs.Productions.{level, links, suffixes, more_args, more_params, more_type_args, more_names, more_imports, imports, contracts, clauses, items, fields, stmts}
use Rattle.quanta_grammar.specs.Productions.{operands, link, link_end, a_suffix, no_suffix, another_arg, arg_end, another_param, param_end, another_type_arg, type_arg_end, another_name, name_end, another_import, import_end}
use Rattle.quanta_grammar.specs.Productions.{an_import, no_import, a_contract, no_contract, a_clause, no_clause, an_item, no_item, a_field, no_field, a_stmt, no_stmt}
use Rattle.quanta_grammar.specs.Names.{names}
use Rattle.quanta_grammar.specs.Guides.{guide, clause_start, closing}
use Rattle.quanta_grammar.specs.Reading.{toll, targets, plan, reads}
use Rattle.quanta_grammar.proofs.Tables.{low}
use Rattle.quanta_grammar.proofs.Steps.{fused, go, takes}

-- A SYMBOL THAT IS READ BY A LOOP: its production's parts but the last, which is the symbol itself, are a turn.
abbrev pub turn : (l : Symbol) → Production l → ℕ → List Tok → Acc → Outcome
turn l p a ts x = go (head ts) (front (outs.marks l p)) (front (grammar.parts l p)) a ts x

abbrev pub Loop : Symbol → (ℕ → Bool) → Toll → (ℕ → List Tok → Acc → Outcome) → Type 0
Loop = Loops.Loop grammar toll targets plan outs

-- THE INVARIANT OF A LOOP: finishing from here is finishing from where it began.
abbrev pub Chain : Symbol → ℕ → List Tok → Acc → ℕ → List Tok → Acc → Type 0
Chain = Loops.Chain grammar toll targets plan outs

pub chain_in : {l : Symbol} {a : ℕ} {ts : List Tok} {x : Acc} → Chain l a ts x a ts x
chain_in = Loops.chain_in grammar toll targets plan outs

module _ {l : Symbol} {goes : ℕ → Bool} {w : Toll} {turns : ℕ → List Tok → Acc → Outcome} (loop : Loop l goes w turns) {a₀ : ℕ} {ts₀ : List Tok} {x₀ : Acc} {a : ℕ} {ts : List Tok} {x : Acc} (c : Chain l a₀ ts₀ x₀ a ts x) where
  pub chain_on : {y : Acc} {r : List Tok} → T (goes (next ts)) → fare w ≤ a → turns (a - fare w) ts x ≡ left y r → Chain l a₀ ts₀ x₀ (a - fare w) r y
  chain_on = Loops.chain_on grammar toll targets plan outs loop c

  pub chain_bad : {e : Refusal} → T (goes (next ts)) → fare w ≤ a → turns (a - fare w) ts x ≡ refused e → reads l a₀ ts₀ x₀ ≡ refused e
  chain_bad = Loops.chain_bad grammar toll targets plan outs loop c

  pub chain_deep : T (goes (next ts)) → a < fare w → reads l a₀ ts₀ x₀ ≡ refused (refusal (refusal_code too_deep) (spot w ts))
  chain_deep = Loops.chain_deep grammar toll targets plan outs loop c

  pub chain_stop : (T (goes (next ts)) → ⊥) → reads l a₀ ts₀ x₀ ≡ left x ts
  chain_stop = Loops.chain_stop grammar toll targets plan outs loop c

-- what a turn comes to: a phrase; and a token, and then a phrase
pub turn_phrase : (t₀ : Tok) (y : Leaf) (r : Reach) (ss : List Step) (s : Symbol) (a : ℕ) (ts : List Tok) (x : Acc) → T (not (targets.minds s)) → go t₀ (mark y pass r ss ∷ []) (sub s ∷ []) a ts x ≡ onward (reads s a ts fresh) (λ z q. left (finish outs t₀ ss (beside r x z)) q)
turn_phrase = Loops.turn_phrase grammar toll targets plan outs

pub turn_both : (t₀ : Tok) (m : Mark) (y : Leaf) (r : Reach) (ss : List Step) (c : List ℕ) (s : Symbol) (a : ℕ) (t : Tok) (ts : List Tok) (x : Acc) → T (stays grammar c t) → T (has c t.kind) → T (not (targets.minds s))
    → go t₀ (m ∷ mark y pass r ss ∷ []) (one c ∷ sub s ∷ []) a (t ∷ ts) x ≡ onward (reads s a ts fresh) (λ z q. left (finish outs t₀ ss (beside r (finish outs t₀ m.steps (leave outs m.token m.reach t x)) z)) q)
turn_both = Loops.turn_both grammar toll targets plan outs

-- .. as in the lists below: an element; behind a comma an element, or a word
pub element : (s : Symbol) (r : Reach) (a : ℕ) (ts : List Tok) (x : Acc) → T (not (targets.minds s)) → go (head ts) (mark nothing pass r [] ∷ []) (sub s ∷ []) a ts x ≡ onward (reads s a ts fresh) (λ y q. left (beside r x y) q)
element s r a ts = turn_phrase (head ts) nothing r [] s a ts

pub comma_element : (s : Symbol) (a : ℕ) (t : Tok) (ts : List Tok) (x : Acc) → T (has (code Comma ∷ []) t.kind) → T (not (targets.minds s))
    → go t (mark nothing pass apart [] ∷ mark nothing pass apart [] ∷ []) (one (code Comma ∷ []) ∷ sub s ∷ []) a (t ∷ ts) x ≡ onward (reads s a ts fresh) (λ y q. left (beside apart x y) q)
comma_element s a t ts x = turn_both t (mark nothing pass apart []) nothing apart [] (code Comma ∷ []) s a t ts x tt

pub comma_word : (c : List ℕ) (a : ℕ) (t u : Tok) (ts : List Tok) (x : Acc) → T (stays grammar c u) → T (has (code Comma ∷ []) t.kind) → T (has c u.kind)
    → go t (mark nothing pass apart [] ∷ mark word pass apart [] ∷ []) (one (code Comma ∷ []) ∷ one c ∷ []) a (t ∷ (u ∷ ts)) x ≡ left (leave outs word apart u x) ts
comma_word c a t u ts x n h k =
    cond_yes (has (code Comma ∷ []) t.kind) _ _ h ∙ stay grammar plan c u ts _ n ∙ cond_yes (has c u.kind) _ _ k

pub comma_miss : (c : List ℕ) (a : ℕ) (t u : Tok) (ts : List Tok) (x : Acc) → T (stays grammar c u) → T (has (code Comma ∷ []) t.kind) → (T (has c u.kind) → ⊥)
    → go t (mark nothing pass apart [] ∷ mark word pass apart [] ∷ []) (one (code Comma ∷ []) ∷ one c ∷ []) a (t ∷ (u ∷ ts)) x ≡ refused (miss plan c (u ∷ ts))
comma_miss c a t u ts x n h k =
    cond_yes (has (code Comma ∷ []) t.kind) _ _ h ∙ stay grammar plan c u ts _ n ∙ cond_no (has c u.kind) _ _ k

-- a loop by the tables: on while, or until, the next kind is one of ks
module _ (l : Symbol) (p q : Production l) (w : Toll) (ks : List ℕ) (pays : toll l p ≡ w) (marked : outs.marks l p ≡ front (outs.marks l p) ++ (mark nothing fold apart [] ∷ [])) (parted : grammar.parts l p ≡ front (grammar.parts l p) ++ (sub l ∷ []))
    (even : length (front (outs.marks l p)) ≡ length (front (grammar.parts l p))) (ends : grammar.parts l q ≡ []) (frees : toll l q ≡ free) where
  whiles : guide l ≡ record { ways = (ks, p) ∷ []; other = use' q } → Loop l (has ks) w (turn l p)
  whiles = Loops.while grammar toll targets plan outs (λ s d. refl) names low fused l p q w (front (outs.marks l p)) (front (grammar.parts l p)) pays marked parted even ends frees ks

  untils : guide l ≡ record { ways = (ks, q) ∷ []; other = use' p } → Loop l (λ k. not (has ks k)) w (turn l p)
  untils = Loops.until grammar toll targets plan outs (λ s d. refl) names low fused l p q w (front (outs.marks l p)) (front (grammar.parts l p)) pays marked parted even ends frees ks

-- THE SEVEN LEVELS: an operand and the links behind it. What the tables say of each level, and then one law for all.
tables : (v : Level) → (toll (level v) operands ≡ free) × (toll (links v) link ≡ behind) × (toll (links v) link_end ≡ free) × T (not (targets.minds (operand v))) × ((t : Tok) → T (stays grammar (operators v) t))
tables logic_or = (refl, refl, refl, tt, λ t. tt)
tables logic_and = (refl, refl, refl, tt, λ t. tt)
tables equality = (refl, refl, refl, tt, λ t. tt)
tables comparison = (refl, refl, refl, tt, λ t. tt)
tables shift = (refl, refl, refl, tt, λ t. tt)
tables additive = (refl, refl, refl, tt, λ t. tt)
tables multiplicative = (refl, refl, refl, tt, λ t. tt)

-- a left operand x and a right one y under the operator t
abbrev pub linked : Acc → Tok → Acc → Acc
linked x t y = finish outs t (make (node_code binary_node) ∷ []) (beside widens (leave outs own apart t x) y)

pub record LevelLaw (v : Level) : Type 0 where
  pub first : (a : ℕ) (ts : List Tok) (x : Acc) → reads (level v) a ts x ≡ onward (reads (operand v) a ts fresh) (λ y r. reads (links v) a r (beside widens x y))
  pub stop : (a : ℕ) (ts : List Tok) (x : Acc) → (T (has (operators v) (next ts)) → ⊥) → reads (links v) a ts x ≡ left x ts
  pub deep : (t : Tok) (ts : List Tok) (x : Acc) → T (has (operators v) t.kind) → reads (links v) 0 (t ∷ ts) x ≡ refused (refusal (refusal_code too_deep) ts)
  pub on : (a : ℕ) (t : Tok) (ts : List Tok) (x : Acc) → T (has (operators v) t.kind) → 0 < a → reads (links v) a (t ∷ ts) x ≡ onward (reads (operand v) (a - 1) ts fresh) (λ y r. reads (links v) (a - 1) r (linked x t y))

pub links_loop : (v : Level) → Loop (links v) (has (operators v)) behind (turn (links v) link)
links_loop v = whiles (links v) link link_end behind (operators v) (tables v).1 refl refl refl refl (tables v).2 refl

pair_turn : (v : Level) (a : ℕ) (ts : List Tok) (x : Acc) → go (head ts) (outs.marks (level v) operands) (grammar.parts (level v) operands) a ts x ≡ onward (reads (operand v) a ts fresh) (λ y r. reads (links v) a r (beside widens x y))
pair_turn v a ts x =
    onward_same (reads (operand v) a ts fresh) _ _
    (λ y r. fit_yes (fits targets (operand v) y (next r)) _ _ (unminded (targets.minds (operand v)) (targets.suits y (next r)) (tables v).3) ∙ onward_left (reads (links v) a r (beside widens x y)))

pub level_law : (v : Level) → LevelLaw v
level_law v =
    let l = tables v in
    let k = links_loop v in
    record {
      first = λ a ts x. takes (level v) operands a ts x refl (subst (λ (w : Toll). fare w ≤ a) (sym l.0) zero-le)
          ∙ ap (λ (w : Toll). go (head ts) (outs.marks (level v) operands) (grammar.parts (level v) operands) (a - fare w) ts x) l.0
          ∙ ap (λ (b : ℕ). go (head ts) (outs.marks (level v) operands) (grammar.parts (level v) operands) b ts x) (sub-zero a)
          ∙ pair_turn v a ts x;
      stop = k.stop;
      deep = λ t ts x h. k.deep 0 (t ∷ ts) x h (omega arith);
      on = λ a t ts x h z. k.on a (t ∷ ts) x h z
          ∙ ap (λ (o : Outcome). onward o (λ y r. reads (links v) (a - 1) r y)) (turn_both t (mark own pass apart []) nothing widens (make (node_code binary_node) ∷ []) (operators v) (operand v) (a - 1) t ts x (l.4 t) h l.3)
          ∙ onward_onward (reads (operand v) (a - 1) ts fresh) _ _;
    }

-- THE SUFFIXES of a primary.
pub suffixes_loop : Loop suffixes (has (codes (Dot ∷ LParen ∷ []))) before (turn suffixes a_suffix)
suffixes_loop = whiles suffixes a_suffix no_suffix before (codes (Dot ∷ LParen ∷ [])) refl refl refl refl refl refl refl

-- LISTS behind commas ..
pub arguments_loop : Loop more_args (has (code Comma ∷ [])) free (turn more_args another_arg)
arguments_loop = whiles more_args another_arg arg_end free (code Comma ∷ []) refl refl refl refl refl refl refl

pub params_loop : Loop more_params (has (code Comma ∷ [])) free (turn more_params another_param)
params_loop = whiles more_params another_param param_end free (code Comma ∷ []) refl refl refl refl refl refl refl

pub type_args_loop : Loop more_type_args (has (code Comma ∷ [])) free (turn more_type_args another_type_arg)
type_args_loop = whiles more_type_args another_type_arg type_arg_end free (code Comma ∷ []) refl refl refl refl refl refl refl

pub names_loop : Loop more_names (has (code Comma ∷ [])) free (turn more_names another_name)
names_loop = whiles more_names another_name name_end free (code Comma ∷ []) refl refl refl refl refl refl refl

pub import_names_loop : Loop more_imports (has (code Comma ∷ [])) free (turn more_imports another_import)
import_names_loop = whiles more_imports another_import import_end free (code Comma ∷ []) refl refl refl refl refl refl refl

-- .. of what a keyword begins ..
pub imports_loop : Loop imports (has (code Import ∷ [])) free (turn imports an_import)
imports_loop = whiles imports an_import no_import free (code Import ∷ []) refl refl refl refl refl refl refl

pub contracts_loop : Loop contracts (has (code Contract ∷ [])) free (turn contracts a_contract)
contracts_loop = whiles contracts a_contract no_contract free (code Contract ∷ []) refl refl refl refl refl refl refl

pub clauses_loop : Loop clauses (has clause_start) free (turn clauses a_clause)
clauses_loop = whiles clauses a_clause no_clause free clause_start refl refl refl refl refl refl refl

-- .. and between braces.
pub items_loop : Loop items (λ k. not (has closing k)) free (turn items an_item)
items_loop = untils items an_item no_item free closing refl refl refl refl refl refl refl

pub fields_loop : Loop fields (λ k. not (has closing k)) free (turn fields a_field)
fields_loop = untils fields a_field no_field free closing refl refl refl refl refl refl refl

pub stmts_loop : Loop stmts (λ k. not (has closing k)) free (turn stmts a_stmt)
stmts_loop = untils stmts a_stmt no_stmt free closing refl refl refl refl refl refl refl
