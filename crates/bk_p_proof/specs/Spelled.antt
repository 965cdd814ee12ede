-- Why tokens are not read as scripts. Only private contracts cite it.
use Rattle.std.specs.Prelude.{List}
use Rattle.bk_form.specs.declared.token.Token.{Token}
use Rattle.bk_raw.specs.Errors.Places.{IsScriptFault}
use Rattle.bk_p_proof.specs.declared.reading.SpellFault.{SpellFault}
use Rattle.bk_p_proof.specs.declared.reading.SpellFault.TheVariants.{At, Memory}

-- the fault is that of the tokens
abbrev pub IsMisspelled : List Token → SpellFault → Type 0
IsMisspelled tokens (At place) = IsScriptFault tokens place
IsMisspelled tokens Memory = Unit {0}
