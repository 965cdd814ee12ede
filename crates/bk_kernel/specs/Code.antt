-- The ways of rewriting as the program tells them, and the rule that it takes by itself.
use Rattle.std.specs.Prelude.{ℕ, Option, Some, None}
use Rattle.bk_kernel.specs.declared.rule.Rule.{Rule}
use Rattle.bk_kernel.specs.declared.rule.Rule.TheVariants.{Drop}
use Rattle.bk_kernel.specs.declared.instances.Change.{Change}
use Rattle.bk_kernel.specs.declared.instances.Change.TheVariants.{EqTo, EqFrom, LawTo, LawFrom, Deciding, Typing, Negating}
use Rattle.bk_kernel.specs.declared.instances.Change.TheVariants.{Belonging, Applying, Extending, Including, Witnessing}
use Rattle.bk_kernel.specs.Rewriting.{Rewriting, eq_to, eq_from, law_to, law_from, deciding, typing}
use Rattle.bk_kernel.specs.Rewriting.{negating, belonging, applying, extending, including, witnessing}

-- the way of rewriting that is told
abbrev pub meant_by : Change → Rewriting
meant_by (EqTo i) = eq_to i
meant_by (EqFrom i) = eq_from i
meant_by (LawTo law picks) = law_to law picks.now
meant_by (LawFrom law picks) = law_from law picks.now
meant_by Deciding = deciding
meant_by Typing = typing
meant_by Negating = negating
meant_by Belonging = belonging
meant_by Applying = applying
meant_by Extending = extending
meant_by Including = including
meant_by Witnessing = witnessing

-- the hypothesis that a rule drops; none for every other rule
abbrev pub dropped : Rule → Option ℕ
dropped (Drop i) = Some i
dropped _ = None
