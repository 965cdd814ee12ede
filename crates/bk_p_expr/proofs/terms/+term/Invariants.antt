use Rattle.std.proofs.Common.{◌≡◌, ◌+◌, ◌*◌, length}
use Rattle.bk_raw.specs.Grammar.Reading.{start}
use Rattle.bk_p_expr.specs.Openings.{unsigned}
use Rattle.bk_p_expr.proofs.Enclosed.{EnclosedSoFar}
use Rattle.bk_p_expr.proofs.Lists.{TermsSoFar, RangesSoFar}
use Rattle.bk_p_expr.proofs.Operators.{LongestSoFar}
use Rattle.bk_p_expr.proofs.Powers.{PowersSoFar}
use Rattle.bk_p_expr.proofs.Suffixes.{TightSoFar}
use Rattle.bk_p_expr.proofs.terms.+term.Given as goal

abbrev pub decreases-longest : goal.decreases-longest
decreases-longest l = 8 * length l.tokens.now + 5

abbrev pub decreases-powers : goal.decreases-powers
decreases-powers l = 8 * length l.tokens.now + 4

abbrev pub decreases-operand : goal.decreases-operand
decreases-operand l = 8 * length l.tokens.now + 3

abbrev pub decreases-next_suffix : goal.decreases-next_suffix
decreases-next_suffix l = 8 * length l.tokens.now

abbrev pub decreases-primary : goal.decreases-primary
decreases-primary l = 8 * length l.tokens.now + 2

abbrev pub decreases-enclosed : goal.decreases-enclosed
decreases-enclosed l = 8 * length l.tokens.now + 6

abbrev pub decreases-extension : goal.decreases-extension
decreases-extension l = 8 * length l.tokens.now + 6

abbrev pub decreases-ranges : goal.decreases-ranges
decreases-ranges l = 8 * length l.tokens.now

abbrev pub decreases-lambda : goal.decreases-lambda
decreases-lambda l = 8 * length l.tokens.now

abbrev pub invariant-longest-loop-op : goal.invariant-longest-loop-op
invariant-longest-loop-op l = record {
  starts : l.at ≡ start l.tokens;
  so_far : LongestSoFar l.tokens l.asked l.left l.strength l.rest;
}

abbrev pub decreases-longest-loop-op : goal.decreases-longest-loop-op
decreases-longest-loop-op l = length l.rest

abbrev pub invariant-powers-loop-behind : goal.invariant-powers-loop-behind
invariant-powers-loop-behind l = PowersSoFar l.tokens l.bases.items l.at l.last l.rest

abbrev pub decreases-powers-loop-behind : goal.decreases-powers-loop-behind
decreases-powers-loop-behind l = length l.rest

abbrev pub invariant-operand-loop-piece : goal.invariant-operand-loop-piece
invariant-operand-loop-piece l = TightSoFar (unsigned l.tokens) l.at l.piece l.rest

abbrev pub decreases-operand-loop-piece : goal.decreases-operand-loop-piece
decreases-operand-loop-piece l = length l.rest

abbrev pub invariant-enclosed-loop-behind : goal.invariant-enclosed-loop-behind
invariant-enclosed-loop-behind l = EnclosedSoFar l.inside l.tokens l.divider l.at l.left l.rest

abbrev pub decreases-enclosed-loop-behind : goal.decreases-enclosed-loop-behind
decreases-enclosed-loop-behind l = length l.rest

abbrev pub invariant-extension-loop-terms : goal.invariant-extension-loop-terms
invariant-extension-loop-terms l = TermsSoFar l.tokens l.terms l.rest

abbrev pub decreases-extension-loop-terms : goal.decreases-extension-loop-terms
decreases-extension-loop-terms l = length l.rest

abbrev pub invariant-ranges-loop-at : goal.invariant-ranges-loop-at
invariant-ranges-loop-at l = RangesSoFar l.tokens l.ranges l.rest

abbrev pub decreases-ranges-loop-at : goal.decreases-ranges-loop-at
decreases-ranges-loop-at l = length l.rest
