-- Of a production under way: an own token that is expected, parts that may be missing, and a record that no token closes.
-- Assumes nothing.
use Rattle.std.specs.Prelude.{Err, IsErrAnd, None, Ok, Option, Result, Some}
use mathlib.Core.Path.{◌≡◌, refl, ap, sym, subst, ◌∙◌}
use mathlib.Core.List.{List, [], ◌∷◌}
use mathlib.Core.Logic.{⊎_elim}
use Prim.Native.Nat.{ℕ, ◌+◌, ◌<◌, ◌≤◌}
use native.Mathlib.Omega.{arith}
use lib.Dec.{T, eqb}
use lib.ListN.{drop}
use Rattle.grammar.specs.Grammar.{Tok, Items, one, sub, has}
use Rattle.grammar.specs.Records.{Acc, Leaf, own, word, pass, fold, Reach, Step, Mark, fresh, leave, finish}
use Rattle.grammar.specs.Fused.{Outcome, left}
use Rattle.grammar.proofs.Lines.{mark}
use Rattle.quanta_token.specs.TokenKind.{code, Eof}
use Rattle.quanta_grammar.specs.RefusalKind.{refusal_code, expected_token}
use Rattle.quanta_grammar.specs.Productions.{Symbol, Production, grammar, outs}
use Rattle.quanta_grammar.specs.Reading.{missed, wanted, reads}
use Rattle.quanta_grammar.specs.Refine.{Text, plain_kind, marking}
use Rattle.quanta_cursor.specs.declared.parser.TokenPos.{TokenPos}
use Rattle.quanta_cursor.specs.declared.parser.Span.{Span}
use Rattle.quanta_cursor.specs.declared.parser.Node.{Node}
use Rattle.quanta_cursor.specs.declared.parser.Refusal.{Refusal}
use Rattle.quanta_cursor.specs.Tokens.{size, kind_at, from, fine_at, tok_at, Ready}
use Rattle.quanta_cursor.specs.Tree.{rec_of, Laid}
use Rattle.quanta_cursor.specs.Answers.{single, Failed, Took}
use Rattle.quanta_cursor.specs.Cursor.{err_at, Expects}
use Rattle.quanta_cursor.proofs.Sets.{coarse, fine_in, is_one, not_one}
use Rattle.quanta_cursor.proofs.Places.{past_as, laid_glue, ready_past}
use Rattle.quanta_cursor.proofs.Exits.{exits}
use Rattle.quanta_cursor.proofs.Meeting.{next_of, lacks_of}
use Rattle.quanta_cursor.proofs.Doing.{Doing, eat, lack, fold_in, ends}
use Rattle.quanta_cursor.proofs.Under.{leaf_of_lem, Under, leaves, worded, folded, unfolded}
use Rattle.quanta_param.specs.declared.decl.Eaten.{Eaten}
use Rattle.quanta_param.specs.Options.{Eats, added, TookOpt, AnswersOpt, MeetsOpt, Opts, EndsAt}

-- the production r of s at the token i, when k of its parts are read
abbrev pub After : {s : Symbol} → Production s → ℕ → Text → List ℕ → ℕ → ℕ → ℕ → Acc → List ℕ → ℕ → List ℕ → ℕ → Type 0
After {s} r k src ws i a p x t n tree q = Under (reads s a (from src ws i) fresh) src ws (tok_at src ws i) (drop k (outs.marks s r)) (drop k (grammar.parts s r)) a p x t n tree q

-- A TOKEN THAT IS EXPECTED, the own token of the record to come
module _ {o : Outcome} {src : Text} {ws : List ℕ} {t₀ : Tok} {ms : List Mark} {is : Items grammar} {a p : ℕ} {x : Acc} {t : List ℕ} {n : ℕ} {tree : List ℕ} {q : ℕ} {r : Reach} (want : ℕ)
    (u : Under o src ws t₀ (mark own pass r [] ∷ ms) (one (want ∷ []) ∷ is) a p x t n tree q) (k : T (coarse (want ∷ []))) {y : Result TokenPos Refusal} (v : Expects ws p want y) where
  pub expects_own : {p' : TokenPos} → (T (eqb want (code Eof)) → ⊥) → y ≡ Ok p' → Under o src ws t₀ ms is a p'.0 (leave outs own r (tok_at src ws p) x) t n tree q
  expects_own z e =
      let w = next_of e v in
      record { doing = eat u.doing k u.ready.inside (is_one want w.0) w.1; laid = u.laid; ready = ready_past u.ready (past_as want z u.ready.closed u.ready.inside w.0) w.1 }

  pub lacks_own : {e : Refusal} → T (marking (missed (want ∷ []))) → ((i : ℕ) → err_at ws i (refusal_code expected_token) want ≡ err_at ws i (missed (want ∷ [])) (plain_kind (wanted (want ∷ [])))) → y ≡ Err e → Failed o e
  lacks_own m s e = let w = lacks_of e v in lack u.doing k u.ready.closed u.ready.inside (not_one want w.0) m (w.1 ∙ s p)

-- A KEYWORD: x with f more for the flag of the record to come
abbrev pub flagged : ℕ → Acc → Acc
flagged f x = record { row = x.row; reach = x.reach; mine = x.mine; sum = x.sum + f }

-- a phrase of s is a keyword k with the flag f, or nothing
pub record Keyword (s : Symbol) (k f : ℕ) : Type 0 where
  pub there : (src : Text) (ws : List ℕ) (i a : ℕ) (x : Acc) → i < size ws → kind_at ws i ≡ k → reads s a (from src ws i) x ≡ left (flagged f x) (from src ws (i + 1))
  pub missing : (src : Text) (ws : List ℕ) (i a : ℕ) (x : Acc) → i < size ws → (kind_at ws i ≡ k → ⊥) → reads s a (from src ws i) x ≡ left x (from src ws i)
  pub no_end : T (eqb k (code Eof)) → ⊥

unflagged : (x : Acc) {f : ℕ} → f ≡ 0 → x ≡ flagged f x
unflagged x {f} e = let z : x.sum ≡ x.sum + f = omega arith in ap (λ (c : ℕ). record { row = x.row; reach = x.reach; mine = x.mine; sum = c }) z

module _ {s : Symbol} {k f : ℕ} (law : Keyword s k f) {ws : List ℕ} {i n : ℕ} (g : Ready ws i n) {r : Eaten} (v : Eats ws i k f r) where
  pub eaten_ready : Ready ws r.at.0 n
  eaten_ready =
      ⊎_elim (λ w. ready_past g (past_as k law.no_end g.closed g.inside w.0) w.1)
      (λ w. subst (λ (j : ℕ). Ready ws j n) (sym w.1) g) v

  pub eaten_few : r.flag ≤ f
  eaten_few = ⊎_elim (λ w. let z = w.2 in omega arith) (λ w. let z = w.2 in omega arith) v

  pub eaten : (src : Text) (a : ℕ) (x : Acc) → reads s a (from src ws i) x ≡ left (flagged r.flag x) (from src ws r.at.0)
  eaten src a x =
      ⊎_elim {C = reads s a (from src ws i) x ≡ left (flagged r.flag x) (from src ws r.at.0)}
      (λ w. law.there src ws i a x g.inside w.0 ∙ ap (λ (f : ℕ). left (flagged f x) (from src ws (i + 1))) (sym w.2) ∙ ap (λ (j : ℕ). left (flagged r.flag x) (from src ws j)) (sym w.1))
      (λ w. law.missing src ws i a x g.inside w.0 ∙ ap (λ (x : Acc). left x (from src ws i)) (unflagged x w.2) ∙ ap (λ (j : ℕ). left (flagged r.flag x) (from src ws j)) (sym w.1)) v

  -- as a part of a production
  pub eaten_in : {o : Outcome} {src : Text} {t₀ : Tok} {ms : List Mark} {is : Items grammar} {a : ℕ} {x : Acc} {t : List ℕ} {m : ℕ} {tree : List ℕ} {y : Leaf} {z : Reach} → Under o src ws t₀ (mark y fold z [] ∷ ms) (sub s ∷ is) a i x t m tree n
      → Under o src ws t₀ ms is a r.at.0 (flagged r.flag x) t m tree n
  eaten_in {src = src} {a = a} {x} u = folded u (eaten src a x) u.laid eaten_ready

-- A NODE THAT MAY BE MISSING: an answer that is made, and one that is taken apart
module _ {o : Outcome} {x : Acc} {y : Reach} {f : ℕ} {src : Text} {ws : List ℕ} {i : ℕ} {t : List ℕ} {n : ℕ} {t' : List ℕ} where
  pub missing : o ≡ left x (from src ws i) → t' ≡ t → MeetsOpt o x y f src ws i t n (Ok None) t'
  missing e w = record { by = (e, w) }

  pub took_opt : {m : Node} → TookOpt o x y f src ws t n m t' → MeetsOpt o x y f src ws i t n (Ok (Some m)) t'
  took_opt k = record { by = k }

  pub failed_opt : {e : Refusal} → Failed o e → MeetsOpt o x y f src ws i t n (Err e) t'
  failed_opt k = record { by = k }

  pub fails_opt : {r : Result (Option Node) Refusal} {e : Refusal} → IsErrAnd r (λ y. y ≡ e) → Failed o e
      → MeetsOpt o x y f src ws i t n r t'
  fails_opt h k = exits (λ r. MeetsOpt o x y f src ws i t n r t') h (failed_opt k)

  pub missing_of : {r : Result (Option Node) Refusal} → r ≡ Ok None → MeetsOpt o x y f src ws i t n r t' → (o ≡ left x (from src ws i)) × (t' ≡ t)
  missing_of z m = subst (λ (r : Result (Option Node) Refusal). AnswersOpt o x y f src ws i t n r t') z m.by

  pub opt_of : {r : Result (Option Node) Refusal} {m : Node} → r ≡ Ok (Some m) → MeetsOpt o x y f src ws i t n r t' → TookOpt o x y f src ws t n m t'
  opt_of z m = subst (λ (r : Result (Option Node) Refusal). AnswersOpt o x y f src ws i t n r t') z m.by

  pub opt_failed_of : {r : Result (Option Node) Refusal} {e : Refusal} → r ≡ Err e → MeetsOpt o x y f src ws i t n r t' → Failed o e
  opt_failed_of z m = subst (λ (r : Result (Option Node) Refusal). AnswersOpt o x y f src ws i t n r t') z m.by

-- .. as a part of a production
module _ {o : Outcome} {src : Text} {ws : List ℕ} {t₀ : Tok} {ms : List Mark} {is : Items grammar} {a p : ℕ} {x : Acc} {t : List ℕ} {n : ℕ} {tree : List ℕ} {q : ℕ} {w : Leaf} {z y : Reach} {s : Symbol} {f : ℕ}
    (u : Under o src ws t₀ (mark w fold z [] ∷ ms) (sub s ∷ is) a p x t n tree q) {r : Result (Option Node) Refusal} {tree' : List ℕ} (v : Opts src s y f ws p q a tree r tree') where
  pub without : r ≡ Ok None → Under o src ws t₀ ms is a p x t n tree' q
  without e = let k = missing_of e (v x) in folded u k.0 (subst (λ (l : List ℕ). Laid t n x.row l q) (sym k.1) u.laid) u.ready

  pub with_it : {m : Node} (e : r ≡ Ok (Some m)) → let k = opt_of e (v x) in Under o src ws t₀ ms is a m.at.0 (added y f x k.top k.below m.span) t n tree' m.no.0
  with_it e = let k = opt_of e (v x) in folded u k.gave (laid_glue u.laid k.laid) k.ready

  pub opt_bad : {e : Refusal} → r ≡ Err e → Failed o e
  opt_bad e = unfolded u (opt_failed_of e (v x))

-- A WORD with the steps behind it
pub eat_word_then : {o : Outcome} {src : Text} {ws : List ℕ} {t₀ : Tok} {ms : List Mark} {is : Items grammar} {a p : ℕ} {x : Acc} {r : Reach} {ss : List Step} (c : List ℕ) (k : ℕ) → Doing o src ws t₀ (mark word pass r ss ∷ ms) (one c ∷ is) a p x → T (coarse c) → T (leaves c k) → p < size ws
    → T (has c (kind_at ws p)) → Doing o src ws t₀ ms is a (p + 1) (finish outs t₀ ss (worded r k ws p x))
eat_word_then {o} {src} {ws} {t₀} {ms} {is} {a} {p} {x} {r} {ss} c k d f l h w =
    subst (λ (k : ℕ). Doing o src ws t₀ ms is a (p + 1) (finish outs t₀ ss (worded r k ws p x))) (leaf_of_lem c k (fine_at src ws p) l (fine_in c f src ws p w)) (eat d f h w refl)

-- A RECORD THAT NO TOKEN CLOSES: the last part goes on with what is left so far, and the steps behind it make the record of all
pub ended_by : {o : Outcome} {src : Text} {ws : List ℕ} {t₀ : Tok} {y : Leaf} {r : Reach} {ss : List Step} {s : Symbol}
    {a p : ℕ} {x z : Acc} {t : List ℕ} {n : ℕ} {tree : List ℕ} {m : Node} {t' : List ℕ} {kind flag own count : ℕ}
    (e : Span) (last : Node) → Doing o src ws t₀ (mark y fold r ss ∷ []) (sub s ∷ []) a p x
    → reads s a (from src ws p) x ≡ left z (from src ws last.at.0) → Laid t n z.row tree last.no.0
    → last.at.0 < size ws → finish outs t₀ ss z ≡ single (rec_of kind flag own e.start e.end count) z.row e
    → EndsAt tree kind flag own e count last m t' → Took o src ws t n m t'
ended_by {o} {src} {ws} {t = t} {n} {t' = t'} {kind} {flag} {own} {count} e last d b l h v k =
    subst (λ (m : Node). Took o src ws t n m t') (sym k.0)
    (ends (rec_of kind flag own e.start e.end count) (fold_in d b) refl v refl l k.1 refl h)
