-- Rewriting at a place.
use Rattle.std.proofs.Common.{◌≡◌, ◌≢◌, ℕ, List, [], ◌∷◌, map, sym, ◌∙◌, ap, subst, true}
use Rattle.std.specs.Prelude.{Some}
use Rattle.std.specs.Option.{option_map, option_and_then}
use Rattle.bk_form.specs.Table.{Table, IsWellFormed}
use Rattle.bk_form.specs.Formula.{Formula}
use Rattle.bk_form.specs.Search.{Finder, IsSearch}
use Rattle.bk_form.specs.Environment.{State, IsTyped, at_state}
use Rattle.bk_form.specs.Role.{role, predicate, untyped}
use Rattle.bk_form.specs.Meaning.{meaning, truth}
use Rattle.bk_form.proofs.Members.{and-both}
use Rattle.bk_form.specs.Predicates.{AllHold}
use Rattle.bk_seq.specs.Paths.{numbered_item, sub_at, put_at}
use Rattle.bk_seq.proofs.Paths.{put-meaning}
use Rattle.bk_seq.proofs.Typing.{parts_type}
use Rattle.bk_arith.specs.Same.{is_same}
use Rattle.bk_arith.proofs.SameFormula.{same-then}
use Rattle.bk_laws.specs.Rows.{Instance}
use Rattle.bk_kernel.specs.declared.rule.Place.{Place}
use Rattle.bk_kernel.specs.declared.rule.Place.TheVariants.{Goal, Hyp as InHyp}
use Rattle.bk_kernel.specs.Branches.{Branch, when}
use Rattle.bk_kernel.specs.Rewriting.{Rewriting, instance_for, stands_for, same_role, part_rewritten, goals_then, rewritten}
use Rattle.bk_form.specs.Each.{Each}
use Rattle.bk_form.specs.Predicates.{IsPredicate}
use Rattle.bk_kernel.proofs.PlainRules.{Leads}
use Rattle.bk_kernel.proofs.RewritingMeans.{instance-sound}
use Rattle.bk_arith.proofs.Options.{chained, mapped}
use Rattle.bk_kernel.proofs.EachItem.{each-item, each-left, each-right, hold-item}
use Rattle.bk_kernel.proofs.Viewed.{when-then, same_role-then}

-- the formulas that are new in a branch are predicates
abbrev pub BranchTypes : Table → Branch → Type 0
BranchTypes table b = Each (IsPredicate table) b.0 × IsPredicate table b.1

module _ (table : Table) (well : IsWellFormed table) (find : Finder) (law : IsSearch find) (st : State) (typed : IsTyped (at_state table st)) (hyps : List Formula) (types : Each (IsPredicate table) hyps) (hold : AllHold find (at_state table st) hyps) where
  abbrev L : Branch → Type 0
  L b = Leads table well find law st typed b

  abbrev asides : List Formula → List Branch
  asides ps = map (λ p. ([], p)) ps

  aside-types : (ps : List Formula) → Each (BranchTypes table) (asides ps) → Each (IsPredicate table) ps
  aside-types [] h = tt
  aside-types (p ∷ ps) h = (h.0.1, aside-types ps h.1)

  aside-holds : (ps : List Formula) → Each L (asides ps) → AllHold find (at_state table st) ps
  aside-holds [] h = tt
  aside-holds (p ∷ ps) h = (h.0 tt, aside-holds ps h.1)

  typed-predicate : (f : Formula) → IsPredicate table f → role table [] f ≢ untyped
  typed-predicate f h k = let never : predicate ≡ untyped = sym h ∙ k in absurd (cc)

  -- what comes of a formula is as true as the formula
  replaced-sound : (r : Rewriting) (f : Formula) (path : List ℕ) (x : List Formula × Formula) → IsPredicate table f → part_rewritten table hyps r f path ≡ Some x → Each (IsPredicate table) x.0 → AllHold find (at_state table st) x.0 → truth find (at_state table st) x.1 ≡ truth find (at_state table st) f
  replaced-sound r f path x p e sides_type sides =
      let made : Instance → List Formula × Formula = λ i. (i.sides, put_at f path i.right) in
      let k = chained (λ old. option_and_then (λ i. when (stands_for table old i) (made i)) (instance_for table hyps r old)) (sub_at f path) x e in
      let old = k.0 in
      let m = chained (λ i. when (stands_for table old i) (made i)) (instance_for table hyps r old) x k.2 in
      let i = m.0 in
      let w = when-then (stands_for table old i) (made i) x m.2 in
      let both = and-both (is_same i.left old) (same_role (role table [] i.left) (role table [] i.right)) w.0 in
      let stands = same-then i.left old both.0 in
      let one = same_role-then (role table [] i.left) (role table [] i.right) both.1 in
      let old_types = subst (λ y. role table [] y ≢ untyped) (sym stands) (parts_type table [] f path old k.1 (typed-predicate f p)) in
      let t = subst (λ y. Each (IsPredicate table) y.0) (sym w.1) sides_type in
      let l = subst (λ y. AllHold find (at_state table st) y.0) (sym w.1) sides in
      let means = instance-sound table well find law st typed hyps types hold r old i m.1 one old_types t l in
      let whole = put-meaning find (at_state table st) f path old i.right k.1 (means ∙ ap (meaning find (at_state table st)) stands) in
      ap (λ y. truth find (at_state table st) y.1) (sym w.1) ∙ ap (λ y. y.truth) whole

  pub rewritten-sound : (r : Rewriting) (place : Place) (goal : Formula) (bs : List Branch) → IsPredicate table goal → rewritten table (hyps, goal) r place ≡ Some bs → Each (BranchTypes table) bs → Each L bs → truth find (at_state table st) goal ≡ true
  rewritten-sound r (Goal path) goal bs p e t l =
      let made : List Formula × Formula → List Branch = λ x. goals_then x.0 ([], x.1) in
      let k = mapped made (part_rewritten table hyps r goal path.items) bs e in
      let last : List Branch = ([], k.0.1) ∷ [] in
      let ts = subst (λ b. Each (BranchTypes table) b) (sym k.2) t in
      let ls = subst (λ b. Each L b) (sym k.2) l in
      let same = replaced-sound r goal path.items k.0 p k.1 (aside-types k.0.0 (each-left (BranchTypes table) (asides k.0.0) last ts)) (aside-holds k.0.0 (each-left L (asides k.0.0) last ls)) in
      sym same ∙ (each-right L (asides k.0.0) last ls).0 tt
  rewritten-sound r (InHyp i path) goal bs p e t l =
      let made : List Formula × Formula → List Branch = λ x. goals_then x.0 (x.1 ∷ [], goal) in
      let j = chained (λ h. option_map made (part_rewritten table hyps r h path.items)) (numbered_item hyps i) bs e in
      let k = mapped made (part_rewritten table hyps r j.0 path.items) bs j.2 in
      let last : List Branch = (k.0.1 ∷ [], goal) ∷ [] in
      let ts = subst (λ b. Each (BranchTypes table) b) (sym k.2) t in
      let ls = subst (λ b. Each L b) (sym k.2) l in
      let same = replaced-sound r j.0 path.items k.0 (each-item (IsPredicate table) hyps i j.0 types j.1) k.1 (aside-types k.0.0 (each-left (BranchTypes table) (asides k.0.0) last ts)) (aside-holds k.0.0 (each-left L (asides k.0.0) last ls)) in
      (each-right L (asides k.0.0) last ls).0 (same ∙ hold-item find (at_state table st) hyps i j.0 hold j.1, tt)
