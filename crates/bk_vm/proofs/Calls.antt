-- From a call that a machine takes to the operation that it runs.
use Rattle.std.proofs.Common.{◌≡◌, ℕ, ◌<◌, refl, ◌∙◌, ap, List, [], length, get_or, ℤ}
use Rattle.std.specs.Prelude.{All}
use Rattle.std.proofs.lemmas.Option.{get_or_from_slice_get}
use Rattle.std.proofs.lemmas.List.Elements.{All-weaker}
use Rattle.bk_code.specs.declared.image.Image.{Image}
use Rattle.bk_code.specs.declared.image.OpEntry.{OpEntry}
use Rattle.bk_code.specs.declared.image.Parameter.{Parameter}
use Rattle.bk_code.specs.Session.{placed}
use Rattle.bk_code.specs.Checks.{IsChecked, IsGoodParameter, IsGoodEntry}
use Rattle.bk_code.specs.Laws.{AreCells}
use Rattle.bk_code.proofs.Sessions.{All-slice_get, call_fitting}
use Rattle.bk_vm.specs.declared.end.CallEnd.{CallEnd}
use Rattle.bk_vm.specs.declared.end.CallEnd.TheVariants.{Done, Trap, OutOfFuel}
use Rattle.bk_vm.specs.Ends.{EndsWith, CallEndsWith, outs_after}
use Rattle.bk_vm.specs.Flows.{standing, IsReady}
use Rattle.bk_vm.specs.State.{TakesCall}

-- the entry that is read is the one that is called
pub entry_is : (image : Image) (op : ℕ) (args : List ℤ) (outs : ℕ) (t : TakesCall image op args outs) (ops : List OpEntry) (read : OpEntry) →
    ops ≡ image.ops → read ≡ get_or ops op read → read ≡ t.entry
entry_is image op args outs t ops read same is =
    is ∙ ap (λ xs. get_or xs op read) same ∙ get_or_from_slice_get image.ops op t.entry read t.named

-- the slots of good parameters are cells
pub slots_stand : (image : Image) (cells : List ℤ) (parameters : List Parameter) → AreCells image cells → All (IsGoodParameter image) parameters →
    All (λ p. p.slot < length cells) parameters
slots_stand image cells parameters kept good =
    rw kept.many (All-weaker (IsGoodParameter image) (λ p. p.slot < image.cells) (λ p h. h.slot) parameters good)

pub entry_good : (image : Image) (op : ℕ) (args : List ℤ) (outs : ℕ) → IsChecked image → (t : TakesCall image op args outs) → IsGoodEntry image t.entry
entry_good image op args outs checked t = All-slice_get (IsGoodEntry image) image.ops op t.entry checked.numbered.ops t.named

pub call_ready : (image : Image) (op : ℕ) (args : List ℤ) (outs : ℕ) (cells : List ℤ) (t : TakesCall image op args outs) → IsChecked image → AreCells image cells →
    (read : OpEntry) (inputs : List Parameter) (written : List ℤ) → read ≡ t.entry → inputs ≡ read.inputs → written ≡ placed inputs args cells →
    IsReady image (standing read.start [] written)
call_ready image op args outs cells t checked kept read inputs written same from put =
    rw (put, from, same) (record {
      numbered = checked.numbered;
      depths = checked.depths;
      deep = checked.fitting;
      fits = call_fitting image checked.depths (record { op = op; args = args }) cells checked.numbered checked.fitting
          (record { entry = t.entry; named = t.named; callable = t.callable }) kept;
    })

pub call_ends : (image : Image) (op : ℕ) (args : List ℤ) (outs : ℕ) (cells : List ℤ) (t : TakesCall image op args outs) (fuel : ℕ)
    (read : OpEntry) (inputs : List Parameter) (written before : List ℤ) (end : CallEnd) (after given : List ℤ) →
    read ≡ t.entry → inputs ≡ read.inputs → written ≡ placed inputs args cells →
    EndsWith image fuel (standing read.start [] written) end after → given ≡ outs_after read.outputs end after before →
    CallEndsWith image op args fuel cells before end after given
call_ends image op args outs cells t fuel read inputs written before end after given same from put ends out = record {
  entry = t.entry;
  named = t.named;
  ends = rw (put, from, same) at ends;
  outputs = rw same at out;
}

-- where a call is not done, the places for outputs are as before
pub outs_same : (end : CallEnd) (outputs : List Parameter) (cells before : List ℤ) → ((steps : ℕ) → end ≡ Done steps → ⊥) → before ≡ outs_after outputs end cells before
outs_same (Done steps) outputs cells before other = absurd (other steps refl)
outs_same (Trap kind at steps) outputs cells before other = refl
outs_same OutOfFuel outputs cells before other = refl
