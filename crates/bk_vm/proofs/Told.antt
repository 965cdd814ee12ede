-- What is told of a machine's calls.
use Rattle.std.proofs.Common.{◌≡◌, ℕ, refl, sym, ◌∙◌, ap, subst, List, [], length, Some, ℤ}
use Rattle.bk_code.specs.declared.image.Image.{Image}
use Rattle.bk_code.specs.declared.image.OpEntry.{OpEntry}
use Rattle.bk_code.specs.declared.image.Parameter.{Parameter}
use Rattle.bk_code.specs.Step.{Config}
use Rattle.bk_code.specs.Session.{Tells, call_start, first_start, outputs_of}
use Rattle.bk_vm.specs.declared.end.CallEnd.{CallEnd}
use Rattle.bk_vm.specs.declared.end.CallEnd.TheVariants.{Done, Trap, OutOfFuel}
use Rattle.bk_vm.specs.Ends.{EndsWith, outs_after}
use Rattle.bk_vm.specs.Sessions.{told_of, StartsSession, ContinuesSession}

-- an end with outputs tells what the definition tells
tells : (image : Image) (fuel : ℕ) (outputs : List Parameter) (c : Config) (end : CallEnd) (after before given : List ℤ) → EndsWith image fuel c end after →
    given ≡ outs_after outputs end after before → Tells image fuel outputs c (told_of end given after)
tells image fuel outputs c (Done steps) after before given h out =
    record { last = h.last; ends = h.ends; cells = h.left; given = out ∙ ap (outputs_of outputs) h.left }
tells image fuel outputs c (Trap kind at steps) after before given h out = record { last = h.last; ends = h.ends; cells = h.left; given = refl }
tells image fuel outputs c OutOfFuel after before given h out = record { last = h.last; ends = h.ends; cells = h.left; given = refl }

nothing : (end : CallEnd) (cells : List ℤ) → [] ≡ outs_after [] end cells []
nothing (Done steps) cells = refl
nothing (Trap kind at steps) cells = refl
nothing OutOfFuel cells = refl

pub starts_session : StartsSession
starts_session image fuel end cells h = tells image fuel [] (first_start image) end cells [] [] h (nothing end cells)

pub continues_session : ContinuesSession
continues_session image op args fuel before outs end after given t h =
    let same : t.entry ≡ h.entry = (let a = t.named in let b = h.named in let e : Some t.entry ≡ Some h.entry = sym a ∙ b in cc) in
    record {
      entry = h.entry;
      named = h.named;
      counted = subst (λ (e : OpEntry). length args ≡ length e.inputs) same t.callable.counted;
      call = tells image fuel h.entry.outputs (call_start h.entry args before) end after outs given h.ends h.outputs;
    }
