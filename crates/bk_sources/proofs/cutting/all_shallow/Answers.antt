use Rattle.std.proofs.Common.{List, ℕ, take, inr, refl, sym, subst, ◌∙◌, arith}
use Rattle.bk_form.specs.declared.token.Token.{Token}
use Rattle.bk_raw.specs.Errors.Limits.{IsShallow, IsTooDeep}
use Rattle.bk_sources.specs.Files.{Has, IsCut, IsDeep, IsFaultOf, IsShallowText}
use Rattle.bk_sources.proofs.FileSteps.{bytes_of, tokens_of, at_file, past_files, files_counted, one_told, none_told, first_beside}
use Rattle.bk_sources.proofs.Turns.{zip_has, zip_on, zip_end}
use Rattle.bk_sources.proofs.cutting.all_shallow.Goals as goal

pub limit-requires : goal.limit-requires
limit-requires c = omega (arith, c.loop-file-test.true, c.requires.countable, files_counted c.args.texts.now c.args.files.now IsCut c.requires.cut)

pub returns-then-is_some-clause-fault : goal.returns-then-is_some-clause-fault
returns-then-is_some-clause-fault c =
    let texts : List (List ℕ) = bytes_of c.args.texts.now in
    let files : List (List Token) = tokens_of c.args.files.now in
    let tokens : List Token = c.index-files-file.result.items in
    let file : ℕ = c.loop-file.file in
    let at = at_file c.args.files.now file c.index-files-file.result c.loop-file-test.true c.index-files-file.is in
    let told = one_told _ _ _ c.too_deep.ensures (sym c.is_some.ensures ∙ c.if-is_some.true) in
    let deep : IsTooDeep tokens told.0 = subst (λ ts. IsTooDeep ts told.0) c.deref.ensures.value told.1 in
    let fine = zip_has IsShallowText (take file texts) (take file files) c.loop-file.invariant in
    let first = first_beside IsCut (Has IsShallowText) IsDeep texts files file tokens at.0 at.1 c.requires.cut (λ text cut. (tokens, cut, told.0, deep)) fine in
    subst (IsFaultOf texts) (sym c.limit.ensures) (inr (refl, zip_has IsCut texts files c.requires.cut, first))

pub loop-file-preserved : goal.loop-file-preserved
loop-file-preserved c =
    let tokens : List Token = c.index-files-file.result.items in
    let at = at_file c.args.files.now c.loop-file.file c.index-files-file.result c.loop-file-test.true c.index-files-file.is in
    let told = none_told _ _ _ c.too_deep.ensures (sym c.is_some.ensures ∙ c.if-is_some.false) in
    let shallow : IsShallow tokens = subst IsShallow c.deref.ensures.value told in
    zip_on IsCut IsShallowText (bytes_of c.args.texts.now) (tokens_of c.args.files.now) c.loop-file.file tokens at.0 at.1 c.requires.cut (λ text cut. record { cut = cut; shallow = shallow }) c.loop-file.invariant

pub returns-clause-ok : goal.returns-clause-ok
returns-clause-ok c = zip_end IsCut IsShallowText (bytes_of c.args.texts.now) (tokens_of c.args.files.now) c.loop-file.file (past_files c.args.files.now c.loop-file.file c.loop-file-test.false) c.requires.cut c.loop-file.invariant
