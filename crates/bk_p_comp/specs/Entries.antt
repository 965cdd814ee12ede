-- Entries of clauses.
use Rattle.std.specs.Prelude.{false, ◌≡◌, List, [], ◌∷◌}
use Rattle.bk_form.specs.declared.token.Token.{Token}
use Rattle.bk_form.specs.declared.token.TokenKind.TheVariants.{Sign}
use Rattle.bk_ops.specs.declared.sign.TheConstants.{EQUAL, OPEN_PAREN, OUTPUTS}
use Rattle.bk_raw.specs.Grammar.Pieces.{JustSign, ◌⌢◌, InParentheses}
use Rattle.bk_raw.specs.Grammar.Spelling.{Names}
use Rattle.bk_raw.specs.declared.term.RawName.{RawName}
use Rattle.bk_raw.specs.Trees.ComponentTree.{RawSet, RawOperation}
use Rattle.bk_raw.specs.Grammar.ComponentSpelling.{Set, HasElements}
use Rattle.bk_raw.specs.Grammar.SubSpelling.{Sub}
use Rattle.bk_raw.specs.Trees.SubTree.{SubTree}
use Rattle.bk_p_expr.specs.Fronts.{Longest, Nothing}
use Rattle.bk_p_sub.specs.Found.{NotAhead}
use Rattle.bk_p_comp.specs.declared.entries.OperationTitle.{OperationTitle}

-- a set with elements
abbrev pub CompleteSet : RawSet → List Token → Type 0
CompleteSet s tokens = Set s tokens × HasElements s

-- the operation with this body
abbrev pub titled : OperationTitle → SubTree → RawOperation
titled t s = record { outputs = t.outputs.items; name = t.name; inputs = t.inputs.items; body = s }

-- what stands after its title: = and the body
abbrev pub Bodied : SubTree → List Token → Type 0
Bodied s = JustSign EQUAL ⌢ Sub false s 1

-- the outputs in front: the names with <-- after them, or none, where the names have none after them
abbrev pub IsOutputs : List Token → List RawName → List Token → Type 0
IsOutputs tokens [] rest = (rest ≡ tokens) × Nothing (λ xs. Names xs ⌢ JustSign OUTPUTS) tokens
IsOutputs tokens (x ∷ xs) rest = Longest (λ ys. Names ys ⌢ JustSign OUTPUTS) tokens (x ∷ xs) rest

-- the inputs in front: names in parentheses, or none, where no parenthesis is in front
abbrev pub IsInputs : List Token → List RawName → List Token → Type 0
IsInputs tokens [] rest = (rest ≡ tokens) × NotAhead (Sign OPEN_PAREN) tokens
IsInputs tokens (x ∷ xs) rest = Longest (λ ys. InParentheses (Names ys)) tokens (x ∷ xs) rest

-- a parenthesis is in front, and no names in parentheses are
abbrev pub HasNoInputs : List Token → Type 0
HasNoInputs tokens = (NotAhead (Sign OPEN_PAREN) tokens → ⊥) × Nothing (λ ys. InParentheses (Names ys)) tokens
