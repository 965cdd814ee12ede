use Rattle.bk_show.specs.Shown.{items, sides, is_bare, unary_form, binary_form}
use Rattle.bk_show.proofs.FormTexts.{empty-written, single-written, infix-written, image-written, application-written, composition-written}
use Rattle.bk_show.proofs.form.+form.Goals as goal

pub write_form-returns-in_ok-extend_from_slice-in-Empty-2 : goal.write_form-returns-in_ok-extend_from_slice-in-Empty-2
write_form-returns-in_ok-extend_from_slice-in-Empty-2 t c =
    empty-written c.args.table.now c.args.around c.in-Empty.ty.now c.args.form.now _ _ _ _
    c.in-Empty.ensures c.in_ok-extend_from_slice-in-Empty.ensures.items c.in_ok-write_type-in-Empty.ensures c.in_ok-extend_from_slice-in-Empty-2.ensures.items

pub write_unary-returns-in_ok-extend_from_slice-in-Single-2 : goal.write_unary-returns-in_ok-extend_from_slice-in-Single-2
write_unary-returns-in_ok-extend_from_slice-in-Single-2 t c =
    single-written (unary_form c.args.op) (is_bare c.args.operand.now) (items c.args.table.now c.args.around c.args.operand.now) _ _ _ _
    c.in-Single.ensures c.in_ok-extend_from_slice-in-Single.ensures.items c.in_ok-write_form-in-Single.ensures c.in_ok-extend_from_slice-in-Single-2.ensures.items

pub write_binary-returns-in_ok-write_part-in-Infix-2 : goal.write_binary-returns-in_ok-write_part-in-Infix-2
write_binary-returns-in_ok-write_part-in-Infix-2 t c =
    infix-written (binary_form c.args.op) c.in-Infix.op (sides c.args.left.now c.args.right.now) (items c.args.table.now c.args.around c.args.left.now) (items c.args.table.now c.args.around c.args.right.now) _ _ _ _ _
    c.in-Infix.ensures c.in_ok-write_part-in-Infix.ensures c.in_ok-write_between-in-Infix.ensures c.sign.ensures c.in_ok-write_part-in-Infix-2.ensures

pub write_binary-returns-in_ok-extend_from_slice-in-Image-2 : goal.write_binary-returns-in_ok-extend_from_slice-in-Image-2
write_binary-returns-in_ok-extend_from_slice-in-Image-2 t c =
    image-written (binary_form c.args.op) (sides c.args.left.now c.args.right.now) (items c.args.table.now c.args.around c.args.left.now) (items c.args.table.now c.args.around c.args.right.now) _ _ _ _ _
    c.in-Image.ensures c.in_ok-write_head-in-Image.ensures c.in_ok-extend_from_slice-in-Image.ensures.items c.in_ok-write_form-in-Image.ensures c.in_ok-extend_from_slice-in-Image-2.ensures.items

pub write_binary-returns-in_ok-write_enclosed-in-Application : goal.write_binary-returns-in_ok-write_enclosed-in-Application
write_binary-returns-in_ok-write_enclosed-in-Application t c =
    application-written (binary_form c.args.op) (sides c.args.left.now c.args.right.now) (items c.args.table.now c.args.around c.args.left.now) (items c.args.table.now c.args.around c.args.right.now) _ _ _
    c.in-Application.ensures c.in_ok-write_head-in-Application.ensures c.in_ok-write_enclosed-in-Application.ensures

pub write_binary-returns-in_ok-extend_from_slice-in-Composition-2 : goal.write_binary-returns-in_ok-extend_from_slice-in-Composition-2
write_binary-returns-in_ok-extend_from_slice-in-Composition-2 t c =
    composition-written (binary_form c.args.op) (sides c.args.left.now c.args.right.now) (items c.args.table.now c.args.around c.args.left.now) (items c.args.table.now c.args.around c.args.right.now) _ _ _ _ _ _
    c.in-Composition.ensures c.in_ok-extend_from_slice-in-Composition.ensures.items c.in_ok-write_part-in-Composition.ensures c.in_ok-write_between-in-Composition.ensures c.in_ok-write_part-in-Composition-2.ensures c.in_ok-extend_from_slice-in-Composition-2.ensures.items
