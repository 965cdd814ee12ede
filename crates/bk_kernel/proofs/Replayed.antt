-- What the program knows of the open sequents while it replays.
use Rattle.std.proofs.Common.{◌≡◌, ℕ, zero, suc, ◌+◌, ◌-◌, ◌^◌, ◌<◌, ◌≤◌, min, List, [], ◌∷◌, ◌++◌, take, length, get_or, map, reverse, refl, sym, ◌∙◌, ap, subst, arith}
use Rattle.std.specs.Prelude.{Some}
use Rattle.std.proofs.lemmas.List.{reverse-append, take_more, take_all, length-reverse}
use Rattle.std.proofs.lemmas.Option.{slice_get_read}
use Rattle.bk_form.specs.Table.{Table}
use Rattle.bk_seq.specs.Paths.{numbered_item}
use Rattle.bk_seq.specs.declared.sequent.Sequent.{Sequent as StoredSequent}
use Rattle.bk_kernel.specs.declared.rule.Rule.{Rule}
use Rattle.bk_seq.specs.Sequents.{Sequent, sequent_of, Types, IsWithin}
use Rattle.bk_form.specs.Each.{Each}
use Rattle.bk_kernel.specs.Rules.{IsInstance}
use Rattle.bk_kernel.specs.Derivations.{Leaves, FailsAt, IsVerdict}
use Rattle.bk_kernel.specs.Standing.{in_order, at_end}
use Rattle.bk_kernel.proofs.EachItem.{each-append}
use Rattle.bk_kernel.proofs.Derived.{leaves-more}

map-more : (held : List StoredSequent) (s : StoredSequent) → map sequent_of (held ++ s ∷ []) ≡ map sequent_of held ++ sequent_of s ∷ []
map-more [] s = refl
map-more (t ∷ ts) s = ap (λ xs. sequent_of t ∷ xs) (map-more ts s)

-- the last one is the first in order
pub first-is-last : (held others : List StoredSequent) (first : StoredSequent) → held ≡ others ++ first ∷ [] → in_order held ≡ sequent_of first ∷ in_order others
first-is-last held others first e =
    ap in_order e ∙ ap reverse (map-more others first) ∙ reverse-append (map sequent_of others) (sequent_of first ∷ [])

length-map : (held : List StoredSequent) → length (map sequent_of held) ≡ length held
length-map [] = refl
length-map (t ∷ ts) = ap suc (length-map ts)

length-in_order : (held : List StoredSequent) → length (in_order held) ≡ length held
length-in_order held = length-reverse (map sequent_of held) ∙ length-map held

-- what holds of the open sequents before a rule
pub record Stands (table : Table) (rules : List Rule) (s : Sequent) (i : ℕ) (held : List StoredSequent) : Type 0 where
  pub reached : Leaves table (s ∷ []) (take i rules) (in_order held)
  pub type : Each (Types table) (in_order held)
  pub within : Each IsWithin (in_order held)

module _ (table : Table) (rules : List Rule) (s : Sequent) (i : ℕ) (rule : Rule) (is_rule : rule ≡ get_or rules i rule) (less : i < length rules) (held others : List StoredSequent) (first : StoredSequent) (popped : held ≡ others ++ first ∷ []) (stands : Stands table rules s i held) where
  before : Leaves table (s ∷ []) (take i rules) (sequent_of first ∷ in_order others)
  before = subst (λ cs. Leaves table (s ∷ []) (take i rules) cs) (first-is-last held others first popped) stands.reached

  pub advanced : (news after : List StoredSequent) → IsInstance table (sequent_of first) rule (map sequent_of news) → in_order after ≡ map sequent_of news ++ in_order others → Stands table rules s (i + 1) after
  advanced news after step placed =
      let more = leaves-more table (s ∷ []) (take i rules) (sequent_of first) (in_order others) (map sequent_of news) rule before step in
      let listed : take i rules ++ rule ∷ [] ≡ take (i + 1) rules = ap (λ r. take i rules ++ r ∷ []) is_rule ∙ sym (take_more rules i rule less) in
      let type = (subst (λ cs. Each (Types table) cs) (first-is-last held others first popped) stands.type).1 in
      let within = (subst (λ cs. Each IsWithin cs) (first-is-last held others first popped) stands.within).1 in
      record {
        reached = subst (λ cs. Leaves table (s ∷ []) (take (i + 1) rules) cs) (sym placed) (subst (λ rs. Leaves table (s ∷ []) rs (map sequent_of news ++ in_order others)) listed more);
        type = subst (λ cs. Each (Types table) cs) (sym placed) (each-append (Types table) (map sequent_of news) (in_order others) step.type type);
        within = subst (λ cs. Each IsWithin cs) (sym placed) (each-append IsWithin (map sequent_of news) (in_order others) step.within within);
      }

  pub failed : ((news : List Sequent) → IsInstance table (sequent_of first) rule news → ⊥) → FailsAt table rules s (i + 1)
  failed never =
      let number : i + 1 ≡ suc i = omega arith in
      let back : i + 1 - 1 ≡ i = omega arith in
      record {
        rule = rule;
        first = sequent_of first;
        others = in_order others;
        is_rule = subst (λ n. numbered_item rules n ≡ Some rule) (sym number) (slice_get_read rules (length rules) i rule refl less is_rule);
        before = subst (λ n. Leaves table (s ∷ []) (take n rules) (sequent_of first ∷ in_order others)) (sym back) before;
        no_instance = never;
      }

-- the verdict where all rules were steps
ended-by : (table : Table) (rules : List Rule) (s : Sequent) (left : List Sequent) (n : ℕ) → n ≡ length left → Leaves table (s ∷ []) rules left → IsVerdict table rules s (at_end n)
ended-by table rules s [] zero e h = h
ended-by table rules s (c ∷ cs) zero e h = absurd (omega arith)
ended-by table rules s left (suc n) e h = record { left = left; after = h; some = omega arith; counted = ap (λ k. min k (2 ^ 32 - 1)) e }

pub ended : (table : Table) (rules : List Rule) (s : Sequent) (i : ℕ) (held : List StoredSequent) → length rules ≤ i → Leaves table (s ∷ []) (take i rules) (in_order held) → IsVerdict table rules s (at_end (length held))
ended table rules s i held all reached =
    ended-by table rules s (in_order held) (length held) (sym (length-in_order held)) (subst (λ rs. Leaves table (s ∷ []) rs (in_order held)) (take_all i rules all) reached)
