use Rattle.std.proofs.Common.{◌≡◌, ◌+◌, ◌∙◌, arith, ap, length}
use Rattle.std.specs.List.{flat_map}
use Rattle.bk_image.specs.Spelling.{version_of, entry}
use Rattle.bk_image.specs.Faults.{ops_place}
use Rattle.bk_image.proofs.Sizes.{ops_end, laid_out_size}
use Rattle.bk_image.proofs.numbers.code_begin.Goals as goal

pub ops_begin-requires : goal.ops_begin-requires
ops_begin-requires c =
    let image = c.args.image.now in
    let v = version_of image in
    omega (arith, c.requires, laid_out_size v image, ops_end v image, ap (λ w. ops_place w image) c.version_of.ensures)

pub entries_end-requires : goal.entries_end-requires
entries_end-requires c =
    let image = c.args.image.now in
    let v = version_of image in
    omega (arith, c.requires, laid_out_size v image, ops_end v image, ap (λ w. ops_place w image) c.version_of.ensures, c.ops_begin.ensures, ap (λ ops. length (flat_map entry ops)) c.as_slice.ensures)

pub overflow_add-result : goal.overflow_add-result
overflow_add-result c =
    let image = c.args.image.now in
    let v = version_of image in
    omega (
      arith,
      c.requires,
      laid_out_size v image,
      ops_end v image,
      ap (λ w. ops_place w image) c.version_of.ensures,
      c.ops_begin.ensures,
      c.entries_end.ensures,
      ap (λ ops. length (flat_map entry ops)) c.as_slice.ensures,
    )

pub returns : goal.returns
returns c =
    let image = c.args.image.now in
    omega (arith, ops_end (version_of image) image, ap (λ w. ops_place w image) c.version_of.ensures, c.ops_begin.ensures, c.entries_end.ensures, ap (λ ops. length (flat_map entry ops)) c.as_slice.ensures)
