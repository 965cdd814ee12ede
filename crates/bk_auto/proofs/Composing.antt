-- Lists of rules that derive the parts of a sequent, put one after another.
use Rattle.std.proofs.Common.{◌≡◌, ℕ, true, List, [], ◌∷◌, ◌++◌, map, Some, None, subst, refl, ap, sym, ◌∙◌}
use Rattle.std.proofs.lemmas.List.{append-nil, append_assoc}
use Rattle.bk_form.specs.Table.{Table}
use Rattle.bk_form.specs.Formula.{Formula, binary, for_all}
use Rattle.bk_val.specs.ValueType.{ValueType}
use Rattle.std.specs.Global.{Vec}
use Rattle.std.specs.Option.{option_map, option_and_then}
use Rattle.bk_bind.specs.Opening.{opened}
use Rattle.bk_arith.specs.Same.{is_same}
use Rattle.bk_seq.specs.Paths.{numbered_item}
use Rattle.bk_kernel.specs.Deciding.{decided, is_yes}
use Rattle.bk_kernel.specs.Naming.{names_of, are_fresh}
use Rattle.bk_kernel.specs.Branches.{extended, when, goal, more, sides, closed_if}
use Rattle.bk_form.specs.declared.operator.BinOp.TheVariants.{And as Conjunction, Imp as Implication, Eq}
use Rattle.bk_seq.specs.Sequents.{Sequent, Types, IsWithin}
use Rattle.bk_kernel.specs.declared.rule.Rule.{Rule}
use Rattle.bk_kernel.specs.declared.rule.Rule.TheVariants.{And, Imp, Fix, Split, Hyp, Same, Eval}
use Rattle.bk_kernel.specs.Derivations.{Leaves, Derives}

-- what rules do to the first sequents they do also where others stand behind
pub Leaves-behind : (table : Table) (claims left more : List Sequent) (rules : List Rule) → Leaves table claims rules left → Leaves table (claims ++ more) rules (left ++ more)
Leaves-behind table claims left more [] h = ap (λ cs. cs ++ more) h
Leaves-behind table [] left more (r ∷ rules) h = absurd h
Leaves-behind table (s ∷ claims) left more (r ∷ rules) h =
    (h.0, h.1, subst (λ cs. Leaves table cs rules (left ++ more)) (append_assoc h.0 claims more) (Leaves-behind table (h.0 ++ claims) left more rules h.2))

pub Leaves-append : (table : Table) (claims mid left : List Sequent) (rules others : List Rule) → Leaves table claims rules mid → Leaves table mid others left → Leaves table claims (rules ++ others) left
Leaves-append table claims mid left [] others h k = subst (λ cs. Leaves table cs others left) (sym h) k
Leaves-append table [] mid left (r ∷ rules) others h k = absurd h
Leaves-append table (s ∷ claims) mid left (r ∷ rules) others h k = (h.0, h.1, Leaves-append table (h.0 ++ claims) mid left rules others h.2 k)

-- rules that derive one sequent, and others that derive the next
pub derives_two : (table : Table) (s t : Sequent) (rules others : List Rule) → Derives table rules s → Derives table others t → Leaves table (s ∷ t ∷ []) (rules ++ others) []
derives_two table s t rules others h k =
    Leaves-append table (s ∷ t ∷ []) (t ∷ []) [] rules others (Leaves-behind table (s ∷ []) [] (t ∷ []) rules h) k

pub same_hyps : (hyps : List Formula) (p : Formula) → ◌≡◌ {A = Sequent} (hyps ++ [], p) (hyps, p)
same_hyps hyps p = ap {B = Sequent} (λ (hs : List Formula). (hs, p)) (append-nil hyps)

-- a conjunction
pub derives_both : (table : Table) (hyps : List Formula) (p q : Formula) (rules others : List Rule) → Types table (hyps, p) → Types table (hyps, q) → IsWithin (hyps, p) → IsWithin (hyps, q) → Derives table rules (hyps, p) → Derives table others (hyps, q) → Derives table (And ∷ rules ++ others) (hyps, binary Conjunction p q)
derives_both table hyps p q rules others tp tq wp wq h k = (
  (hyps, p) ∷ (hyps, q) ∷ [],
  record {
    made = ap (λ s. Some (s ∷ (hyps ++ [], q) ∷ [])) (same_hyps hyps p) ∙ ap (λ s. Some ((hyps, p) ∷ s ∷ [])) (same_hyps hyps q);
    type = (tp, (tq, tt));
    within = (wp, (wq, tt));
  },
  derives_two table (hyps, p) (hyps, q) rules others h k,
)

-- an implication
pub derives_supposed : (table : Table) (hyps : List Formula) (p q : Formula) (rules : List Rule) → Types table (hyps ++ p ∷ [], q) → IsWithin (hyps ++ p ∷ [], q) → Derives table rules (hyps ++ p ∷ [], q) → Derives table (Imp ∷ rules) (hyps, binary Implication p q)
derives_supposed table hyps p q rules t w h = ((hyps ++ p ∷ [], q) ∷ [], record { made = refl; type = (t, tt); within = (w, tt) }, h)

-- a body for new variables
pub derives_fixed : (table : Table) (hyps : List Formula) (ts : List ValueType) (body : Formula) (ns : Vec ℕ) (rules : List Rule) → are_fresh table (hyps, for_all ts body) ts ns.items ≡ true → Types table (hyps, opened (names_of ns.items) body) → IsWithin (hyps, opened (names_of ns.items) body) → Derives table rules (hyps, opened (names_of ns.items) body) → Derives table (Fix ns ∷ rules) (hyps, for_all ts body)
derives_fixed table hyps ts body ns rules new t w h = (
  (hyps, opened (names_of ns.items) body) ∷ [],
  record {
    made = ap (λ b. option_map (map (extended (hyps, for_all ts body))) (when b (goal (opened (names_of ns.items) body) ∷ []))) new
        ∙ ap (λ s. Some (s ∷ [])) (same_hyps hyps (opened (names_of ns.items) body));
    type = (t, tt);
    within = (w, tt);
  },
  h,
)

-- a conjunction among the hypotheses is taken apart
pub derives_split : (table : Table) (hyps : List Formula) (p q : Formula) (goal : Formula) (n : ℕ) (rules : List Rule) → numbered_item hyps n ≡ Some (binary Conjunction p q) → Types table (hyps ++ p ∷ q ∷ [], goal) → IsWithin (hyps ++ p ∷ q ∷ [], goal) → Derives table rules (hyps ++ p ∷ q ∷ [], goal) → Derives table (Split n ∷ rules) (hyps, goal)
derives_split table hyps p q aim n rules here t w h = (
  (hyps ++ p ∷ q ∷ [], aim) ∷ [],
  record {
    made = ap (λ o. option_map (map (extended (hyps, aim))) (option_and_then (λ f. option_map (λ (x : Formula × Formula). more (hyps, aim) (x.0 ∷ x.1 ∷ [])) (sides Conjunction f)) o)) here;
    type = (t, tt);
    within = (w, tt);
  },
  h,
)

-- the goal is a hypothesis
pub derives_hyp : (table : Table) (hyps : List Formula) (p : Formula) (n : ℕ) (h : Formula) → numbered_item hyps n ≡ Some h → is_same h p ≡ true → Derives table (Hyp n ∷ []) (hyps, p)
derives_hyp table hyps p n h here same = (
  [],
  record {
    made = ap (λ o. option_map (map (extended (hyps, p))) (option_and_then (λ f. closed_if (is_same f p)) o)) here
        ∙ ap (λ b. option_map (map (extended (hyps, p))) (closed_if b)) same;
    type = tt;
    within = tt;
  },
  refl,
)

-- both sides are one
pub derives_same : (table : Table) (hyps : List Formula) (a b : Formula) → is_same a b ≡ true → Derives table (Same ∷ []) (hyps, binary Eq a b)
derives_same table hyps a b same = (
  [],
  record {
    made = ap (λ t. option_map (map (extended (hyps, binary Eq a b))) (closed_if t)) same;
    type = tt;
    within = tt;
  },
  refl,
)

-- a true closed comparison or membership
pub derives_decided : (table : Table) (hyps : List Formula) (p : Formula) → decided p ≡ Some true → Derives table (Eval None ∷ []) (hyps, p)
derives_decided table hyps p told = (
  [],
  record {
    made = ap (λ o. option_map (map (extended (hyps, p))) (closed_if (is_yes o))) told;
    type = tt;
    within = tt;
  },
  refl,
)
