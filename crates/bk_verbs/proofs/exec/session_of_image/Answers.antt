use Rattle.std.proofs.Common.{◌≡◌, ◌⊎◌, ◌∙◌, ℕ, List, inl, inr, refl, Some, sym, subst}
use Rattle.bk_io.specs.Files.{Files}
use Rattle.bk_cli.specs.Tasks.{exec_task}
use Rattle.bk_verbs.specs.Stops.{IsOutside, StopsTask}
use Rattle.bk_verbs.proofs.Stopping.{handed_on, or_else_stops, at_image_file, at_loading, at_call_script}
use Rattle.std.proofs.Common.{map, arith, ap, All}
use Rattle.bk_code.proofs.DeadCode.{loadable_is_checked}
use Rattle.bk_code.specs.declared.image.Image.{Image}
use Rattle.bk_code.specs.Checks.{IsChecked}
use Rattle.bk_code.specs.Laws.{IsRequest}
use Rattle.bk_code.specs.Session.{Session}
use Rattle.bk_vm.specs.State.{State, fresh}
use Rattle.bk_calls.specs.Transcript.{transcript}
use Rattle.bk_calls.specs.Script.{request_of, IsScript}
use Rattle.std.proofs.lemmas.List.{length-map}
use Rattle.bk_io.specs.Bytes.{AreBytes}
use Rattle.bk_image.specs.Encoding.{Encodes}
use Rattle.bk_verbs.specs.Project.{IsTold, IsToldAsBytes, ReadsCalls}
use Rattle.bk_verbs.specs.Stops.{StopsAtScript}
use Rattle.bk_verbs.proofs.exec.session_of_image.Goals as goal

-- what a file holds, as bytes
held_bytes : (files : Files) (name fetched held bytes : List ℕ) → held ≡ fetched → bytes ≡ held → IsTold files name fetched → AreBytes held → IsToldAsBytes files name bytes
held_bytes files name fetched held bytes e d told are = record { told = subst (IsTold files name) (sym (d ∙ e)) told; are_bytes = subst AreBytes (sym d) are }

pub returns-in_err-fetch-clause-cause : goal.returns-in_err-fetch-clause-cause
returns-in_err-fetch-clause-cause g c =
    handed_on c.from_residual.result c.in_err-fetch.field-0.0
    (λ stop. (files : Files) → g.H.Shelf.files c.args.shelf.now ≡ Some files → IsOutside stop ⊎ StopsTask files (exec_task c.args.image.now c.args.script.now c.args.fuel) stop)
    c.from_residual.ensures.1
    (λ files told. at_image_file files c.args.image.now c.args.script.now c.in_err-fetch.field-0.0 (c.in_err-fetch.ensures.cause files told))

pub returns-in_err-loaded-clause-cause : goal.returns-in_err-loaded-clause-cause
returns-in_err-loaded-clause-cause g c =
    handed_on c.from_residual-in_err-loaded.result c.in_err-loaded.field-0.0
    (λ stop. (files : Files) → g.H.Shelf.files c.args.shelf.now ≡ Some files → IsOutside stop ⊎ StopsTask files (exec_task c.args.image.now c.args.script.now c.args.fuel) stop)
    c.from_residual-in_err-loaded.ensures.1
    (λ files told. at_loading files c.args.image.now c.args.script.now c.in_err-loaded.field-0.0 c.as_bytes.result.now (held_bytes files c.args.image.now _ c.from_bytes-bytes.result c.as_bytes.result.now c.from_bytes-bytes.ensures c.as_bytes.ensures.value (c.in_ok-fetch.ensures.told files told) c.as_bytes.ensures.bytes) c.in_err-loaded.ensures.cause)

pub returns-in_err-text-clause-cause : goal.returns-in_err-text-clause-cause
returns-in_err-text-clause-cause g c =
    handed_on c.from_residual-in_err-text.result c.in_err-text.field-0.0
    (λ stop. (files : Files) → g.H.Shelf.files c.args.shelf.now ≡ Some files → IsOutside stop ⊎ StopsTask files (exec_task c.args.image.now c.args.script.now c.args.fuel) stop)
    c.from_residual-in_err-text.ensures.1
    (λ files told. at_call_script files c.args.image.now c.args.script.now c.in_err-text.field-0.0 c.as_bytes.result.now c.in_ok-loaded.loaded (held_bytes files c.args.image.now _ c.from_bytes-bytes.result c.as_bytes.result.now c.from_bytes-bytes.ensures c.as_bytes.ensures.value (c.in_ok-fetch.ensures.told files told) c.as_bytes.ensures.bytes) c.in_ok-loaded.ensures.ok (or_else_stops c.in_err-text.field-0.0 _ _ (c.in_err-text.ensures.cause files (c.fetch.ensures.files ∙ told)) inl))

pub returns-in_err-calls-clause-cause : goal.returns-in_err-calls-clause-cause
returns-in_err-calls-clause-cause g c =
    handed_on c.from_residual-in_err-calls.result c.in_err-calls.field-0.0
    (λ stop. (files : Files) → g.H.Shelf.files c.args.shelf.now ≡ Some files → IsOutside stop ⊎ StopsTask files (exec_task c.args.image.now c.args.script.now c.args.fuel) stop)
    c.from_residual-in_err-calls.ensures.1
    (λ files told. at_call_script files c.args.image.now c.args.script.now c.in_err-calls.field-0.0 c.as_bytes.result.now c.in_ok-loaded.loaded (held_bytes files c.args.image.now _ c.from_bytes-bytes.result c.as_bytes.result.now c.from_bytes-bytes.ensures c.as_bytes.ensures.value (c.in_ok-fetch.ensures.told files told) c.as_bytes.ensures.bytes) c.in_ok-loaded.ensures.ok (or_else_stops c.in_err-calls.field-0.0 _ _ c.in_err-calls.ensures.cause (λ k. inr (c.in_ok-text.text.items, c.in_ok-text.ensures.told files (c.fetch.ensures.files ∙ told), subst (λ x. StopsAtScript c.args.script.now x c.in_ok-loaded.loaded c.in_err-calls.field-0.0) c.deref.ensures.value k))))

-- an image that is loaded has as many operations as a field of two bytes can count
pub calls_of-requires-clause-few_operations : goal.calls_of-requires-clause-few_operations
calls_of-requires-clause-few_operations g c = omega (arith, c.in_ok-loaded.ensures.ok.spelled.fits.few_ops)

-- the player runs the image that was loaded
loaded_image : (p : State) (image : Image) → p ≡ fresh image → p.image ≡ image
loaded_image p image e = ap (λ s. s.image) e

pub returns-clause-told : goal.returns-clause-told
returns-clause-told g c files told tolds session = record {
  bytes = c.as_bytes.result.now;
  told = (held_bytes files c.args.image.now _ c.from_bytes-bytes.result c.as_bytes.result.now c.from_bytes-bytes.ensures c.as_bytes.ensures.value (c.in_ok-fetch.ensures.told files told) c.as_bytes.ensures.bytes);
  loaded = c.in_ok-loaded.loaded;
  encodes = c.in_ok-loaded.ensures.ok;
  played = record {
    requests = map request_of c.in_ok-calls.calls.items;
    asks = record {
      text = c.in_ok-text.text.items;
      told = c.in_ok-text.ensures.told files (c.fetch.ensures.files ∙ told);
      script = subst (λ x. IsScript c.in_ok-loaded.loaded x (map request_of c.in_ok-calls.calls.items)) c.deref.ensures.value c.in_ok-calls.ensures.ok;
      few = rw (length-map c.in_ok-calls.calls.items request_of) c.in_ok-calls.ensures.few;
    };
    tolds = tolds;
    session = subst (λ i. Session i c.args.fuel (map request_of c.in_ok-calls.calls.items) tolds) (loaded_image c.in_ok-player.player c.in_ok-loaded.loaded c.in_ok-player.ensures) session;
    last = refl;
    transcript_is = ap (λ i. transcript i c.args.fuel (map request_of c.in_ok-calls.calls.items) tolds) (loaded_image c.in_ok-player.player c.in_ok-loaded.loaded c.in_ok-player.ensures);
  };
}

pub of_image-requires : goal.of_image-requires
of_image-requires g c = loadable_is_checked c.in_ok-loaded.loaded c.in_ok-loaded.ensures.ok.loadable

pub returns-clause-playable : goal.returns-clause-playable
returns-clause-playable g c = record {
  fresh = ap (λ s. s.started) c.in_ok-player.ensures;
  checked = subst IsChecked (sym (loaded_image c.in_ok-player.player c.in_ok-loaded.loaded c.in_ok-player.ensures)) (loadable_is_checked c.in_ok-loaded.loaded c.in_ok-loaded.ensures.ok.loadable);
  asked = subst (λ i. All (IsRequest i) (map request_of c.in_ok-calls.calls.items)) (sym (loaded_image c.in_ok-player.player c.in_ok-loaded.loaded c.in_ok-player.ensures)) c.in_ok-calls.ensures.requests;
  few = rw (length-map c.in_ok-calls.calls.items request_of) c.in_ok-calls.ensures.few;
  small = c.requires.small;
}

pub returns-clause-suits : goal.returns-clause-suits
returns-clause-suits g c files told = (
  c.as_bytes.result.now,
  held_bytes files c.args.image.now _ c.from_bytes-bytes.result c.as_bytes.result.now c.from_bytes-bytes.ensures c.as_bytes.ensures.value (c.in_ok-fetch.ensures.told files told) c.as_bytes.ensures.bytes,
  subst (Encodes c.as_bytes.result.now) (sym (loaded_image c.in_ok-player.player c.in_ok-loaded.loaded c.in_ok-player.ensures)) c.in_ok-loaded.ensures.ok,
  refl,
  subst (λ i. ReadsCalls files c.args.script.now i (map request_of c.in_ok-calls.calls.items)) (sym (loaded_image c.in_ok-player.player c.in_ok-loaded.loaded c.in_ok-player.ensures))
      (record {
        text = c.in_ok-text.text.items;
        told = c.in_ok-text.ensures.told files (c.fetch.ensures.files ∙ told);
        script = subst (λ x. IsScript c.in_ok-loaded.loaded x (map request_of c.in_ok-calls.calls.items)) c.deref.ensures.value c.in_ok-calls.ensures.ok;
        few = rw (length-map c.in_ok-calls.calls.items request_of) c.in_ok-calls.ensures.few;
      }),
)
