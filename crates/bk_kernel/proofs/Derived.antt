-- Rules one after another.
use Rattle.std.proofs.Common.{List, [], ◌∷◌, ◌++◌, refl, sym, subst}
use Rattle.bk_form.specs.Table.{Table}
use Rattle.bk_kernel.specs.declared.rule.Rule.{Rule}
use Rattle.bk_seq.specs.Sequents.{Sequent, Types, IsValidSequent}
use Rattle.bk_form.specs.Each.{Each}
use Rattle.bk_kernel.specs.Rules.{IsInstance}
use Rattle.bk_kernel.specs.Derivations.{Leaves}
use Rattle.bk_kernel.proofs.EachItem.{each-append, each-left, each-right}

module _ (table : Table) where
  -- one more step at the end
  pub leaves-more : (claims : List Sequent) (rules : List Rule) (first : Sequent) (others news : List Sequent) (rule : Rule) → Leaves table claims rules (first ∷ others) → IsInstance table first rule news → Leaves table claims (rules ++ rule ∷ []) (news ++ others)
  leaves-more claims [] first others news rule h k = subst (λ cs. Leaves table cs (rule ∷ []) (news ++ others)) (sym h) (news, k, refl)
  leaves-more [] (r ∷ rs) first others news rule h k = absurd h
  leaves-more (s ∷ claims) (r ∷ rs) first others news rule h k = (h.0, h.1, leaves-more (h.0 ++ claims) rs first others news rule h.2 k)

  types-after : (news others : List Sequent) → Each (Types table) news → Each (Types table) others → Each (Types table) (news ++ others)
  types-after news others h k = each-append (Types table) news others h k

  -- what is left after all rules is valid only where what stood before is
  pub derived-valid : ((s : Sequent) (rule : Rule) (news : List Sequent) → Types table s → IsInstance table s rule news → Each (IsValidSequent table) news → IsValidSequent table s) → (claims : List Sequent) (rules : List Rule) (left : List Sequent) → Each (Types table) claims → Leaves table claims rules left → Each (IsValidSequent table) left → Each (IsValidSequent table) claims
  derived-valid sound claims [] left types h valid = subst (λ cs. Each (IsValidSequent table) cs) (sym h) valid
  derived-valid sound [] (r ∷ rs) left types h valid = absurd h
  derived-valid sound (s ∷ claims) (r ∷ rs) left types h valid =
      let all = derived-valid sound (h.0 ++ claims) rs left (types-after h.0 claims (h.1).type types.1) h.2 valid in
      (sound s r h.0 types.0 h.1 (each-left (IsValidSequent table) h.0 claims all), each-right (IsValidSequent table) h.0 claims all)
