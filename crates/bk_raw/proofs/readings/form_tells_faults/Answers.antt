use Rattle.bk_raw.proofs.FormRight.{form-tells}
use Rattle.bk_raw.proofs.readings.form_tells_faults.Goals as goal

pub returns : goal.returns
returns c = form-tells
