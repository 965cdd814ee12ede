use Rattle.std.proofs.Common.{◌≡◌, ℕ, ℤ, List, ◌++◌, Option, Some, ◌∙◌, sym, ap, subst, length, length-append, get_or, arith}
use Rattle.std.specs.Prelude.{slice_get, codes}
use Rattle.std.proofs.lemmas.Option.{get_or_from_slice_get}
use Rattle.bk_code.specs.declared.image.Image.{Image}
use Rattle.bk_code.specs.declared.image.OpEntry.{OpEntry}
use Rattle.bk_vm.specs.declared.end.CallEnd.{CallEnd}
use Rattle.bk_vm.specs.declared.end.CallEnd.TheVariants.{Done}
use Rattle.bk_vm.specs.Ends.{end_of}
use Rattle.bk_calls.specs.Transcript.{AreOutputs, value_texts, given_text, entry_name, entry_outputs, called_text, reply_text}
use Rattle.bk_calls.specs.Room.{longest_done}
use Rattle.bk_calls.proofs.Lengths.{called_within, done_within, trap_length}
use Rattle.bk_calls.proofs.transcript.reply.Goals as goal

-- the reply to a call that is done
done_reply : (image : Image) (op : Option ℕ) (place : ℕ) (entry : OpEntry) (end : CallEnd) (steps : ℕ) (outs : List ℤ) → op ≡ Some place → slice_get image.ops place ≡ Some entry → end ≡ Done steps →
    reply_text image op (end_of end) outs ≡ entry.name ++ given_text (value_texts image entry.outputs outs) ++ codes "\n"
done_reply image op place entry end steps outs is named done =
    ap (λ (o : Option ℕ). reply_text image o (end_of end) outs) is ∙ ap (λ (e : CallEnd). reply_text image (Some place) (end_of e) outs) done ∙
    ap (λ (o : Option OpEntry). entry_name o ++ given_text (value_texts image (entry_outputs o) outs) ++ codes "\n") named

-- the entry that is read is the one that was asked for
entry_is : (image : Image) (place : ℕ) (outs : List ℤ) (ops : List OpEntry) (entry : OpEntry) (called : AreOutputs image (Some place) outs) → ops ≡ image.ops → entry ≡ get_or ops place entry → entry ≡ called.0
entry_is image place outs ops entry called same is =
    is ∙ ap (λ (list : List OpEntry). get_or list place entry) same ∙ get_or_from_slice_get image.ops place called.0 entry called.1

pub write_done-requires-clause-room : goal.write_done-requires-clause-room
write_done-requires-clause-room c =
    let image = c.args.image.now in
    let called : AreOutputs image (Some c.in-Some.op) c.args.outs.now = subst (λ (o : Option ℕ). AreOutputs image o c.args.outs.now) c.in-Some.is c.requires.outputs in
    let same = entry_is image c.in-Some.op c.args.outs.now c.as_slice.result.now c.index-as_slice-op.result called c.as_slice.ensures c.index-as_slice-op.is in
    omega (arith, done_within image c.in-Some.op called.0 called.1, ap (λ (entry : OpEntry). length (longest_done image entry)) same, ap length c.clear.ensures.bytes)

pub write_name-requires : goal.write_name-requires
write_name-requires c = omega (arith, called_within c.args.image.now c.args.op c.args.outs.now c.requires.outputs, ap length c.clear.ensures.bytes)

pub write_trap-requires : goal.write_trap-requires
write_trap-requires c =
    omega (arith, called_within c.args.image.now c.args.op c.args.outs.now c.requires.outputs, trap_length c.in-Trap.kind c.in-Trap.at (omega arith), ap length c.clear.ensures.bytes, ap length c.write_name.ensures.bytes, length-append c.clear.new.self.bytes (called_text c.args.image.now c.args.op))

pub write_name-requires-in-OutOfFuel : goal.write_name-requires-in-OutOfFuel
write_name-requires-in-OutOfFuel c = omega (arith, called_within c.args.image.now c.args.op c.args.outs.now c.requires.outputs, ap length c.clear.ensures.bytes)

pub write-requires : goal.write-requires
write-requires c =
    omega (arith, called_within c.args.image.now c.args.op c.args.outs.now c.requires.outputs, ap length c.clear.ensures.bytes, ap length c.write_name-in-OutOfFuel.ensures.bytes, length-append c.clear.new.self.bytes (called_text c.args.image.now c.args.op))

pub returns-in-Some-clause-bytes : goal.returns-in-Some-clause-bytes
returns-in-Some-clause-bytes c =
    let image = c.args.image.now in
    let called : AreOutputs image (Some c.in-Some.op) c.args.outs.now = subst (λ (o : Option ℕ). AreOutputs image o c.args.outs.now) c.in-Some.is c.requires.outputs in
    let same = entry_is image c.in-Some.op c.args.outs.now c.as_slice.result.now c.index-as_slice-op.result called c.as_slice.ensures c.index-as_slice-op.is in
    c.write_done.ensures.bytes ∙ ap (λ (bytes : List ℕ). bytes ++ (c.index-as_slice-op.result.name ++ given_text (value_texts image c.index-as_slice-op.result.outputs c.args.outs.now) ++ codes "\n")) c.clear.ensures.bytes ∙
    ap (λ (entry : OpEntry). entry.name ++ given_text (value_texts image entry.outputs c.args.outs.now) ++ codes "\n") same ∙
    sym (done_reply image c.args.op c.in-Some.op called.0 c.args.end.now c.in-Done.steps c.args.outs.now c.in-Some.is called.1 c.in-Done.is)
