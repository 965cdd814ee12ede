-- Small components as they are written, and what they are answered phase by phase, to be checked by hand.
-- Source: this project.
use Rattle.std.specs.Prelude.{ℕ, ◌+◌, List, [], ◌∷◌, Option, None, Some}
use Rattle.bk_gsl.specs.Substitution.{Substitution}
use Rattle.bk_dev.specs.Development.{Development, body_at}
use Rattle.bk_raw.specs.declared.operator.InfixOp.TheVariants.{Equal, Member, And, Interval}
use Rattle.bk_raw.specs.declared.operator.Constant.TheVariants.{Bool as BoolWord}
use Rattle.bk_raw.specs.declared.component.ComponentKind.TheVariants.{Machine as AsMachine}
use Rattle.bk_raw.specs.declared.component.ClauseWord.TheVariants.{Constants, Properties, Variables, Invariant, Initialisation, Operations}
use Rattle.bk_raw.specs.declared.component.RawValue.{RawValue}
use Rattle.bk_raw.specs.Trees.RawTree.{RawTree, raw, raw_constant, no_trees, tree_and}
use Rattle.bk_raw.specs.Trees.SubTree.{SubTree, sub, sub_skip, sub_assign, sub_pre}
use Rattle.bk_raw.specs.Trees.ComponentTree.{RawOperation, RawComponent, clause_names, clause_term, clause_sub, clause_operations}
use Rattle.bk_raw.specs.Meaning.TermReading.{place_of}
use Rattle.bk_statics.specs.Components.{component_of}
use Rattle.bk_statics.specs.Above.{above_of}
use Rattle.bk_statics.specs.Verdict.{Verdict}
use Rattle.bk_statics.specs.Texts.{maxint, name_at, term_at, number, infix_at, up_to, is_in, takes_at, clause, operation, component}
use Rattle.bk_statics.specs.Texts.{a_text, c_text, s_text, t_text, u_text, v_text, x_text, step_text, machine_with, machine_text, code_with}
use Rattle.bk_statics.specs.Texts.{deferring}
use Rattle.bk_phases.specs.Resolved.{resolved_component}
use Rattle.bk_phases.specs.Types.{types_of}
use Rattle.bk_phases.specs.LevelOf.{with_level}
use Rattle.bk_phases.specs.Verdict.{verdict_of}

-- ---- answers
-- one component below another
abbrev pub below : Option Development → RawComponent → Development
below above written = let r = resolved_component (above_of above) (component_of written) in with_level (types_of maxint r) r

-- the machine M of the texts by itself
abbrev pub first_level : Option Development
first_level = Some (below None machine_text)

-- what a machine is answered
abbrev pub machine_verdict : RawComponent → Verdict
machine_verdict written = verdict_of maxint None written

-- what a component below M is answered
abbrev pub lower_verdict : RawComponent → Verdict
lower_verdict written = verdict_of maxint first_level written

-- what step does in M, where it is written so
abbrev pub step_done : SubTree → Substitution
step_done body = (body_at (below None (machine_with body)) 0 0).sub

-- M, with a deferred set of this size
abbrev pub above_code : ℕ → Option Development
above_code size = Some (deferring size (below None machine_text))

-- what an implementation below them is answered that starts with v := a and has these values
abbrev pub deferred_verdict : ℕ → List RawValue → Verdict
deferred_verdict size values = verdict_of maxint (above_code size) (code_with (takes_at 40 v_text a_text) values)

-- ---- a machine with two numbers
-- x : BOOL
abbrev pub is_truth : ℕ → List ℕ → RawTree
is_truth at x = infix_at at Member (term_at at x) (raw (at + 4) (raw_constant BoolWord))

-- P & Q
abbrev pub both : RawTree → RawTree → RawTree
both p q = infix_at (place_of p) And p q

-- MACHINE M CONSTANTS c PROPERTIES c : 0 .. 5 VARIABLES v, u INVARIANT this INITIALISATION v, u := c, c OPERATIONS, this one alone
abbrev pub typed_machine : RawTree → RawOperation → RawComponent
typed_machine p o = component AsMachine (77 ∷ []) None (
    clause Constants 10 (clause_names (name_at 12 c_text ∷ []))
    ∷ clause Properties 14 (clause_term (is_in 16 c_text (up_to 18 5)))
    ∷ clause Variables 20 (clause_names (name_at 22 v_text ∷ name_at 24 u_text ∷ []))
    ∷ clause Invariant 26 (clause_term p)
    ∷ clause Initialisation 60 (clause_sub (sub 62 (sub_assign (name_at 62 v_text ∷ name_at 64 u_text ∷ [])
    (tree_and (term_at 66 c_text) (tree_and (term_at 68 c_text) no_trees)))))
    ∷ clause Operations 70 (clause_operations (o ∷ [])) ∷ [])

-- INVARIANT v : 0 .. c & u = v
abbrev pub two_numbers : RawTree
two_numbers =
    both (is_in 28 v_text (infix_at 30 Interval (number 30 0) (term_at 31 c_text)))
    (infix_at 34 Equal (term_at 34 u_text) (term_at 36 v_text))

-- step = this
abbrev pub stepping_by : SubTree → RawComponent
stepping_by s = typed_machine two_numbers (operation [] (name_at 72 step_text) [] s)

-- step = skip, with this invariant
abbrev pub standing_by : RawTree → RawComponent
standing_by p = typed_machine p (operation [] (name_at 72 step_text) [] (sub 80 sub_skip))

-- step(x) = PRE this THEN skip END
abbrev pub stepping_with : RawTree → RawComponent
stepping_with p =
    typed_machine two_numbers (operation [] (name_at 72 step_text) (name_at 76 x_text ∷ []) (sub 80 (sub_pre p (sub 99 sub_skip))))

-- s <-- step = this
abbrev pub telling_by : SubTree → RawComponent
telling_by s = typed_machine two_numbers (operation (name_at 72 s_text ∷ []) (name_at 74 step_text) [] s)

-- 1 & t = 1, where t is not visible and 1 is no predicate
abbrev pub wrong_twice : RawTree
wrong_twice = both (number 28 1) (infix_at 34 Equal (term_at 34 t_text) (number 36 1))
