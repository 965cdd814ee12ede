-- What the code that executes one instruction tells.
use Rattle.std.specs.Prelude.{◌≡◌, ℕ, ◌+◌, ◌-◌, ◌^◌, ◌≤◌, ℤ, pos, Bool, true, List, length, All}
use Rattle.bk_limits.specs.declared.TheConstants.{STACK_ROOM, GREATEST_MAXINT}
use Rattle.bk_code.specs.declared.image.Image.{Image}
use Rattle.bk_code.specs.declared.instruction.Inst.{Inst}
use Rattle.bk_code.specs.declared.instruction.Inst.TheVariants.{ALoad, AStore, Add, Sub, Mul, Div, Mod, Neg, Eq, Lt, Le, Not}
use Rattle.bk_code.specs.Numbers.{int_max, default_max, IsWithin}
use Rattle.bk_code.specs.Step.{Config, Outcome, Returns, Traps, next}
use Rattle.bk_code.specs.Checks.{IsNumbered, IsDepths, IsFitting, IsGoodInst, pops, pushes}
use Rattle.bk_code.specs.Laws.{AreCells}
use Rattle.bk_vm.specs.Depth.{tops}
use Rattle.bk_vm.specs.declared.execute.Flow.{Flow}
use Rattle.bk_vm.specs.declared.execute.Flow.TheVariants.{Next, Return, Trapped}

-- the outcome that a flow of control stands for, with the numbers of the stack and the cells after it
abbrev pub outcome_of : Flow → List ℤ → List ℤ → Outcome
outcome_of (Next place depth) stack cells = next place (tops depth stack) cells
outcome_of Return stack cells = Returns
outcome_of (Trapped kind) stack cells = Traps kind

-- the cells are as before where the call ends
abbrev pub KeepsAtEnd : Flow → List ℤ → List ℤ → Type 0
KeepsAtEnd (Next place depth) before after = Unit {0}
KeepsAtEnd Return before after = after ≡ before
KeepsAtEnd (Trapped kind) before after = after ≡ before

-- the number lies in the widest range, so that no sum or difference of two such leaves 64 bits
abbrev pub IsSmall : ℤ → Type 0
IsSmall = IsWithin GREATEST_MAXINT

-- the range of an image is one of those, and it is the default one where that is said
pub record HasRange (image : Image) (is_default : Bool) : Type 0 where
  pub small : IsSmall (int_max image)
  pub usual : is_default ≡ true → int_max image ≡ default_max

-- the least index of an array whose element is read or written lies in the widest range
abbrev pub HasSmallLow : Inst → Type 0
HasSmallLow (ALoad base low count) = IsSmall low
HasSmallLow (AStore base low count) = IsSmall low
HasSmallLow _ = Unit {0}

-- the instruction takes one or two numbers from the stack and pushes one, and does nothing else
abbrev pub IsComputation : Inst → Type 0
IsComputation Add = Unit {0}
IsComputation Sub = Unit {0}
IsComputation Mul = Unit {0}
IsComputation Div = Unit {0}
IsComputation Mod = Unit {0}
IsComputation Neg = Unit {0}
IsComputation Eq = Unit {0}
IsComputation Lt = Unit {0}
IsComputation Le = Unit {0}
IsComputation Not = Unit {0}
IsComputation _ = ⊥

-- the configuration at a place with a stack and cells
abbrev pub standing : ℕ → List ℤ → List ℤ → Config
standing place stack cells = record { place = place; stack = stack; cells = cells }

-- an instruction may be executed at a place: its operands are good, the stack has what it pops and room for what it pushes
pub record IsExecutable (image : Image) (place : ℕ) (inst : Inst) (depth : ℕ) (stack cells : List ℤ) : Type 0 where
  pub operands : IsGoodInst image place inst
  pub low : HasSmallLow inst
  pub enough : pops inst ≤ depth
  pub deep : depth ≤ STACK_ROOM
  pub room : depth - pops inst + pushes inst ≤ STACK_ROOM
  pub long : length stack ≡ STACK_ROOM
  pub range : All IsSmall (tops depth stack)
  pub kept : AreCells image cells

-- a configuration fits a checked image
pub record IsReady (image : Image) (c : Config) : Type 0 where
  pub numbered : IsNumbered image
  pub depths : List ℕ
  pub deep : IsDepths image depths
  pub fits : IsFitting image depths c

-- where control goes on, the configuration fits the image again
abbrev pub IsReadyAfter : Image → Flow → List ℤ → List ℤ → Type 0
IsReadyAfter image (Next place depth) stack cells = IsReady image (standing place (tops depth stack) cells)
IsReadyAfter image Return stack cells = Unit {0}
IsReadyAfter image (Trapped kind) stack cells = Unit {0}
