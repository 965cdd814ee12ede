-- A formula is within the limits only where its parts are.
use Rattle.std.proofs.Common.{List, arith}
use Rattle.bk_val.specs.ValueType.{ValueType}
use Rattle.bk_form.specs.Formula.{Formula, unary, binary, for_all, for_some}
use Rattle.bk_form.specs.declared.operator.UnOp.{UnOp}
use Rattle.bk_form.specs.declared.operator.BinOp.{BinOp}
use Rattle.bk_bind.specs.Limits.{IsWithinLimits}

pub within_operand : (o : UnOp) (a : Formula) → IsWithinLimits (unary o a) → IsWithinLimits a
within_operand o a w = record { nodes = omega (arith, w.nodes); height = omega (arith, w.height) }

pub within_left : (o : BinOp) (a b : Formula) → IsWithinLimits (binary o a b) → IsWithinLimits a
within_left o a b w = record { nodes = omega (arith, w.nodes); height = omega (arith, w.height) }

pub within_right : (o : BinOp) (a b : Formula) → IsWithinLimits (binary o a b) → IsWithinLimits b
within_right o a b w = record { nodes = omega (arith, w.nodes); height = omega (arith, w.height) }

pub within_body : (ts : List ValueType) (p : Formula) → IsWithinLimits (for_all ts p) → IsWithinLimits p
within_body ts p w = record { nodes = omega (arith, w.nodes); height = omega (arith, w.height) }

pub within_some_body : (ts : List ValueType) (p : Formula) → IsWithinLimits (for_some ts p) → IsWithinLimits p
within_some_body ts p w = record { nodes = omega (arith, w.nodes); height = omega (arith, w.height) }

pub ruleset parts_within = (within_operand, within_left, within_right, within_body, within_some_body)
