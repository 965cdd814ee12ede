-- Rules that one script stands for make the same of each sequent, so that an obligation has one state.
use Rattle.std.proofs.Common.{◌≡◌, ◌⊎◌, inl, inr, ℕ, zero, suc, ◌-◌, List, [], ◌∷◌, ◌++◌, take, refl, sym, ◌∙◌, ap, subst, true, false}
use Rattle.std.specs.Prelude.{Some, None, slice_get}
use Rattle.std.specs.List.{AllZip}
use Rattle.bk_form.specs.Table.{Table}
use Rattle.bk_seq.specs.Paths.{numbered_item}
use Rattle.bk_seq.specs.Sequents.{Sequent}
use Rattle.bk_raw.specs.Trees.ScriptTree.{RawRule, RawScript}
use Rattle.bk_kernel.specs.declared.rule.Rule.{Rule}
use Rattle.bk_kernel.specs.declared.replaying.Verdict.{Verdict}
use Rattle.bk_kernel.specs.declared.replaying.Verdict.TheVariants.{Closed, BadStep as BadAt, Open as LeftOpen, Extra as LeftOver}
use Rattle.bk_kernel.specs.Obvious.{is_obvious}
use Rattle.bk_kernel.specs.Rules.{makes, IsInstance}
use Rattle.bk_kernel.specs.Derivations.{Leaves, IsVerdict}
use Rattle.bk_kernel.proofs.Verdicts.{one-verdict}
use Rattle.bk_dev.specs.Development.{Development}
use Rattle.bk_scripts.specs.Parts.{Around}
use Rattle.bk_scripts.specs.Grounding.{StandsFor, around_script, IsGrounded}
use Rattle.bk_scripts.proofs.Alike.{grounded_are_alike}
use Rattle.bk_status.specs.States.{script_named, HasVerdict, state_of, IsState}
use Rattle.bk_status.specs.Laws.{StatesAreOne}
use Rattle.bk_status.specs.declared.state.State.{State}
use Rattle.bk_status.specs.declared.state.State.TheVariants.{Obvious, Proved, NoScript, BadStep, Open, Extra}

-- ---- lists of rules
abbrev IsLike : Rule → Rule → Type 0
IsLike r q = (table : Table) (s : Sequent) → makes table s r ≡ makes table s q

abbrev AreLike : List Rule → List Rule → Type 0
AreLike rs qs = AllZip IsLike rs qs

all-like : (a : Around) (ws : List RawRule) (rs qs : List Rule) → AllZip (StandsFor a) ws rs → AllZip (StandsFor a) ws qs → AreLike rs qs
all-like a [] [] [] h k = tt
all-like a [] (r ∷ rs) qs h k = absurd h
all-like a [] [] (q ∷ qs) h k = absurd k
all-like a (w ∷ ws) [] qs h k = absurd h
all-like a (w ∷ ws) (r ∷ rs) [] h k = absurd k
all-like a (w ∷ ws) (r ∷ rs) (q ∷ qs) h k = (grounded_are_alike a w r q h.0 k.0, all-like a ws rs qs h.1 k.1)

zip-take : {A B : Type 0} (R : A → B → Type 0) (k : ℕ) (xs : List A) (ys : List B) → AllZip R xs ys → AllZip R (take k xs) (take k ys)
zip-take R zero xs ys h = tt
zip-take R (suc k) [] [] h = tt
zip-take R (suc k) [] (y ∷ ys) h = absurd h
zip-take R (suc k) (x ∷ xs) [] h = absurd h
zip-take R (suc k) (x ∷ xs) (y ∷ ys) h = (h.0, zip-take R k xs ys h.1)

-- the rule of a number, and the other list's, both ways
abbrev HasLike : List Rule → Rule → ℕ → Type 0
HasLike qs r k = (q : Rule) × (numbered_item qs k ≡ Some q) × IsLike q r

same-rule : (r q : Rule) → Some r ≡ Some q → r ≡ q
same-rule r q h = cc

get-like : (n : ℕ) (rs qs : List Rule) (r : Rule) → AreLike qs rs → slice_get rs n ≡ Some r → HasLike qs r (suc n)
get-like n [] qs r h e = absurd (cc)
get-like n (x ∷ rs) [] r h e = absurd h
get-like zero (x ∷ rs) (y ∷ qs) r h e = (y, refl, subst (λ z. IsLike y z) (same-rule x r e) h.0)
get-like (suc n) (x ∷ rs) (y ∷ qs) r h e = get-like n rs qs r h.1 e

item-like : (k : ℕ) (rs qs : List Rule) (r : Rule) → AreLike qs rs → numbered_item rs k ≡ Some r → HasLike qs r k
item-like zero rs qs r h e = absurd (cc)
item-like (suc n) rs qs r h e = get-like n rs qs r h e

module _ (table : Table) where
  instance-like : (r q : Rule) (s : Sequent) (news : List Sequent) → IsLike r q → IsInstance table s r news → IsInstance table s q news
  instance-like r q s news h k = record { made = sym (h table s) ∙ k.made; type = k.type; within = k.within }

  leaves-like : (claims : List Sequent) (rs qs : List Rule) (left : List Sequent) → AreLike rs qs → Leaves table claims rs left → Leaves table claims qs left
  leaves-like claims [] [] left h k = k
  leaves-like claims [] (q ∷ qs) left h k = absurd h
  leaves-like claims (r ∷ rs) [] left h k = absurd h
  leaves-like [] (r ∷ rs) (q ∷ qs) left h k = absurd k
  leaves-like (s ∷ claims) (r ∷ rs) (q ∷ qs) left h k = (k.0, instance-like r q s k.0 h.0 k.1, leaves-like (k.0 ++ claims) rs qs left h.1 k.2)

  module _ (rs qs : List Rule) (s : Sequent) (there : AreLike rs qs) (back : AreLike qs rs) where
    verdict-like : (v : Verdict) → IsVerdict table rs s v → IsVerdict table qs s v
    verdict-like Closed h = leaves-like (s ∷ []) rs qs [] there h
    verdict-like (BadAt k) h =
        let other = item-like k rs qs h.rule back h.is_rule in
        record {
          rule = other.0;
          first = h.first;
          others = h.others;
          is_rule = other.1;
          before = leaves-like (s ∷ []) (take (k - 1) rs) (take (k - 1) qs) (h.first ∷ h.others) (zip-take IsLike (k - 1) rs qs there) h.before;
          no_instance = λ news i. h.no_instance news (instance-like other.0 h.rule h.first news other.2 i);
        }
    verdict-like (LeftOpen n) h = record { left = h.left; after = leaves-like (s ∷ []) rs qs h.left there h.after; some = h.some; counted = h.counted }
    verdict-like (LeftOver k) h =
        let other = item-like k rs qs h.rule back h.is_rule in
        record { rule = other.0; is_rule = other.1; before = leaves-like (s ∷ []) (take (k - 1) rs) (take (k - 1) qs) [] (zip-take IsLike (k - 1) rs qs there) h.before }

-- ---- states
same-script : (x y : RawScript) → Some x ≡ Some y → x ≡ y
same-script x y h = cc

module _ (dev : Development) (scripts : List RawScript) (name : List ℕ) (s : Sequent) where
  one-verdict-there : (v w : Verdict) → HasVerdict dev scripts name s v → HasVerdict dev scripts name s w → v ≡ w
  one-verdict-there v w h k =
      let same : h.script ≡ k.script = same-script h.script k.script (sym h.named ∙ k.named) in
      let grounded : IsGrounded dev k.script h.rules h.table = subst (λ x. IsGrounded dev x h.rules h.table) same h.grounded in
      let over = dev.table in
      let around = around_script over dev k.script in
      let there = all-like around k.script.rules h.rules k.rules grounded.each k.grounded.each in
      let back = all-like around k.script.rules k.rules h.rules k.grounded.each grounded.each in
      let one : IsVerdict k.table h.rules s v = subst (λ t. IsVerdict t h.rules s v) (grounded.widens ∙ sym k.grounded.widens) h.verdict_is in
      one-verdict k.table k.rules s v w (verdict-like k.table h.rules k.rules s there back v one) k.verdict_is

  -- it is obvious, or it has no script, or a verdict
  abbrev Cases : State → Type 0
  Cases one =
      ((one ≡ Obvious) × (is_obvious s.0 s.1 ≡ true)) ⊎
      ((one ≡ NoScript) × (is_obvious s.0 s.1 ≡ false) × (script_named scripts name ≡ None)) ⊎
      ((v : Verdict) × (one ≡ state_of v) × HasVerdict dev scripts name s v)

  cases : (one : State) → IsState dev scripts name s one → Cases one
  cases Obvious h = inl (refl, h)
  cases NoScript h = inr (inl (refl, h.0, h.1))
  cases Proved h = inr (inr (Closed, refl, h))
  cases (BadStep k) h = inr (inr (BadAt k, refl, h))
  cases (Open n) h = inr (inr (LeftOpen n, refl, h))
  cases (Extra k) h = inr (inr (LeftOver k, refl, h))

  not-both : is_obvious s.0 s.1 ≡ true → is_obvious s.0 s.1 ≡ false → ⊥
  not-both h k = let e : true ≡ false = sym h ∙ k in cc

  no-verdict : (v : Verdict) → script_named scripts name ≡ None → HasVerdict dev scripts name s v → ⊥
  no-verdict v none h = let e : None ≡ Some h.script = sym none ∙ h.named in cc

  by-cases : (one other : State) → Cases one → Cases other → one ≡ other
  by-cases one other (inl h) (inl k) = h.0 ∙ sym k.0
  by-cases one other (inl h) (inr (inl k)) = absurd (not-both h.1 k.1)
  by-cases one other (inl h) (inr (inr k)) = absurd (not-both h.1 (k.2).not_obvious)
  by-cases one other (inr (inl h)) (inl k) = absurd (not-both k.1 h.1)
  by-cases one other (inr (inl h)) (inr (inl k)) = h.0 ∙ sym k.0
  by-cases one other (inr (inl h)) (inr (inr k)) = absurd (no-verdict k.0 h.2 k.2)
  by-cases one other (inr (inr h)) (inl k) = absurd (not-both k.1 (h.2).not_obvious)
  by-cases one other (inr (inr h)) (inr (inl k)) = absurd (no-verdict h.0 k.2 h.2)
  by-cases one other (inr (inr h)) (inr (inr k)) = h.1 ∙ ap state_of (one-verdict-there h.0 k.0 h.2 k.2) ∙ sym k.1

pub states_are_one : StatesAreOne
states_are_one dev scripts name s one other h k = by-cases dev scripts name s one other (cases dev scripts name s one h) (cases dev scripts name s other k)
