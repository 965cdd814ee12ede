-- Code without loops: each call ends within as many steps as its code has instructions.
use Rattle.std.specs.Prelude.{ℕ, ℤ, List, length}
use Rattle.bk_val.specs.Value.{MathValue}
use Rattle.bk_form.specs.Search.{Finder}
use Rattle.bk_dev.specs.Development.{Development, body_at, level_at, last}
use Rattle.bk_dev.specs.Machine.{Abstract, Call}
use Rattle.bk_code.specs.declared.image.Image.{Image}
use Rattle.bk_code.specs.declared.image.OpEntry.{OpEntry}
use Rattle.bk_code.specs.Session.{first_start}
use Rattle.bk_b0.specs.Translation.{init_code, operation_code}
use Rattle.bk_sim.specs.Follows.{started, IsAllowedCall, IsLegalNext}
use Rattle.bk_sim.specs.Ending.{EndsWithin, HasNoLoop}

-- a call of the operation is done within the length of its code, Ret included
abbrev pub CallEnds : Development → Image → Call → OpEntry → List ℤ → Type 0
CallEnds dev image c entry m = EndsWithin image (length (operation_code dev (body_at dev (last dev) c.op))) (started entry c m)

-- what has no loop ends within its code: the initialisation; a legal call after calls that are done; and one whose precondition is true
-- in a state that is linked to the cells
pub record EndsWithoutLoops (find : Finder) (dev : Development) (image : Image) : Type 0 where
  pub opening : HasNoLoop (level_at dev (last dev)).init → EndsWithin image (length (init_code dev)) (first_start image)
  pub session : (fuel : ℕ) (l m : List ℤ) (cs : List Call) (c : Call) (outs : List (List MathValue)) (entry : OpEntry) →
      HasNoLoop (body_at dev (last dev) c.op).sub → IsLegalNext find dev image fuel l m cs c outs entry →
      CallEnds dev image c entry m
  pub local : (a : Abstract) (m : List ℤ) (c : Call) (entry : OpEntry) → HasNoLoop (body_at dev (last dev) c.op).sub →
      IsAllowedCall find dev image a m c entry → CallEnds dev image c entry m
