use Rattle.std.proofs.Common.{◌≡◌, ◌+◌, ◌≤◌, ◌∙◌, ap, subst, length, length-append, take, get_or, ℤ, pos, to_z, of_z, w64, arith}
use Rattle.std.proofs.lemmas.Int.{to_z-of_z}
use Rattle.bk_code.specs.declared.image.Parameter.{Parameter}
use Rattle.bk_code.specs.declared.image.CellKind.TheVariants.{Integer}
use Rattle.bk_calls.specs.Transcript.{value_text, value_texts, given_text}
use Rattle.bk_calls.specs.Room.{longest_value}
use Rattle.bk_calls.proofs.Outputs.{separator_is, written_more, output_length}
use Rattle.bk_calls.proofs.Lengths.{given_next, given_within}
use Rattle.bk_calls.proofs.transcript.write_outputs.Goals as goal

abbrev nothing : Parameter
nothing = record { kind = Integer; slot = 0 }

pub write-requires : goal.write-requires
write-requires c =
    let image = c.args.image.now in
    let outputs = c.args.outputs.now in
    let given = given_text (value_texts image (take c.loop-i.i outputs) (take c.loop-i.i c.args.values.now)) in
    let sign = ap length (separator_is c.loop-i.i c.separator.result.now c.separator.ensures.first c.separator.ensures.other) in
    let written = c.loop-i.invariant.written in
    omega (arith, ap length written, length-append c.args.line.now.bytes given, sign, given_next image outputs c.loop-i.i nothing c.loop-i-test.true, given_within image outputs (c.loop-i.i + 1) (omega arith))

pub write_value-requires : goal.write_value-requires
write_value-requires c =
    let image = c.args.image.now in
    let outputs = c.args.outputs.now in
    let given = given_text (value_texts image (take c.loop-i.i outputs) (take c.loop-i.i c.args.values.now)) in
    let sign = ap length (separator_is c.loop-i.i c.separator.result.now c.separator.ensures.first c.separator.ensures.other) in
    let written = c.loop-i.invariant.written in
    omega (
      arith,
      ap length written,
      length-append c.args.line.now.bytes given,
      sign,
      given_next image outputs c.loop-i.i nothing c.loop-i-test.true,
      given_within image outputs (c.loop-i.i + 1) (omega arith),
      ap length c.write.ensures.bytes,
      length-append c.loop-i.line.bytes c.separator.result.now,
    )

pub loop-i-preserved : goal.loop-i-preserved
loop-i-preserved c =
    let image = c.args.image.now in
    let outputs = c.args.outputs.now in
    let values = c.args.values.now in
    let same : to_z w64 (of_z w64 (get_or values c.loop-i.i (pos 0))) ≡ get_or values c.loop-i.i (pos 0) = grind (arith, to_z-of_z) in
    let value = subst (λ (n : ℤ). length (value_text image (get_or outputs c.loop-i.i nothing).kind n) ≤ length (longest_value image (get_or outputs c.loop-i.i nothing).kind)) same c.write_value.ensures.short in
    record {
      written = written_more image outputs values c.loop-i.i _ (pos 0) c.args.line.now.bytes c.loop-i.line.bytes c.write.new.self.bytes c.write_value.new.line.bytes c.separator.result.now
          c.loop-i-test.true c.requires.counted c.loop-i.invariant.written c.separator.ensures.first c.separator.ensures.other c.write.ensures.bytes (rw same at c.write_value.ensures.bytes);
      room = c.write_value.ensures.room ∙ c.write.ensures.room ∙ c.loop-i.invariant.room;
      short = omega (arith, c.loop-i.invariant.short, value, given_next image outputs c.loop-i.i nothing c.loop-i-test.true, output_length image outputs values c.loop-i.i nothing (pos 0) c.loop-i-test.true c.requires.counted);
    }
