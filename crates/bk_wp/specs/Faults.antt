-- Why a box or a diamond is not made: as a formula made of others is not.
use Rattle.bk_bind.specs.declared.error.BindFault.{BindFault}
use Rattle.bk_bind.specs.declared.error.BindFault.TheVariants.{TooLarge, Memory}
use Rattle.bk_wp.specs.declared.error.WpFault.{WpFault}
use Rattle.bk_wp.specs.declared.error.WpFault.TheVariants.{TooLarge as IsTooLarge, Memory as NoRoom}

-- the reason for a box or a diamond, by the reason for the formula that could not be put together
abbrev pub fault_of : BindFault → WpFault
fault_of TooLarge = IsTooLarge
fault_of Memory = NoRoom
