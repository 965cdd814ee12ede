-- The parts of a rule, by how many there are.
use Rattle.std.proofs.Common.{◌≡◌, List, [], ◌∷◌, map, refl, sym, subst}
use Rattle.std.specs.Prelude.{Option, MatchOption, IsSomeAnd, Some, None}
use Rattle.std.specs.Option.{option_map}
use Rattle.bk_raw.specs.Trees.ScriptTree.{RulePart}
use Rattle.bk_raw.specs.declared.script.RulePart.{RulePart as Part}
use Rattle.bk_raw.specs.Codes.ScriptView.{part_of}
use Rattle.bk_scripts.specs.Finding.{IsMeaning}
use Rattle.bk_scripts.specs.Parts.{One, Two}
use Rattle.bk_scripts.specs.Grounding.{Made}
use Rattle.bk_kernel.specs.declared.rule.Rule.{Rule}

module _ {A : Type 0} (P : RulePart → A → Type 0) where
  pub one_none : (parts : List Part) → ((p : Part) → parts ≡ p ∷ [] → ⊥) → (x : A) → One P (map part_of parts) x → ⊥
  one_none [] lacks x h = h
  one_none (p ∷ []) lacks x h = lacks p refl
  one_none (p ∷ q ∷ ps) lacks x h = h

module _ {A B : Type 0} (P : RulePart → A → Type 0) (Q : RulePart → B → Type 0) where
  pub two_none : (parts : List Part) → ((p q : Part) → parts ≡ p ∷ q ∷ [] → ⊥) → (x : A × B) → Two P Q (map part_of parts) x → ⊥
  two_none [] lacks x h = h
  two_none (p ∷ []) lacks x h = h
  two_none (p ∷ q ∷ []) lacks x h = lacks p q refl
  two_none (p ∷ q ∷ r ∷ ps) lacks x h = h

-- the rule that is made of what parts mean, as `map` makes it
pub made_by : {A : Type 0} (P : A → Type 0) (make : A → Rule) (o : Option A) (r : Option Rule) → IsMeaning P o → MatchOption o (r ≡ None) (λ x. IsSomeAnd r (λ y. y ≡ make x)) → IsMeaning (Made P make) r
made_by P make None r h e = subst (IsMeaning (Made P make)) (sym e) (λ y m. h m.0 m.1)
made_by P make (Some x) None h e = absurd e
made_by P make (Some x) (Some y) h e = (x, h, e)

-- the same where each is made
pub made_of : {A : Type 0} (P : A → Type 0) (make : A → Rule) (o : Option A) (r : Option Rule) → IsMeaning P o → r ≡ option_map make o → IsMeaning (Made P make) r
made_of P make None r h e = subst (IsMeaning (Made P make)) (sym e) (λ y m. h m.0 m.1)
made_of P make (Some x) r h e = subst (IsMeaning (Made P make)) (sym e) (x, h, refl)
