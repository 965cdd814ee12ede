-- A substitution in which nothing is misplaced reads as one that stands where it may.
use Rattle.std.proofs.Common.{◌≡◌, inl, inr, ℕ, List, [], ◌++◌, refl, Bool, true, false, not}
use Rattle.std.specs.List.{flat_map}
use Rattle.bk_dev.specs.declared.kind.Kind.{Kind}
use Rattle.bk_dev.specs.declared.kind.Kind.TheVariants.{Machine, Refinement, Implementation}
use Rattle.bk_dev.specs.Development.{is_implementing}
use Rattle.bk_dev.specs.Facts.{MaySequence, MayLoop, IsUnordered}
use Rattle.bk_raw.proofs.RulesFit.{none-left, none-right, some-fault}
use Rattle.bk_phases.specs.Scope.{unless}
use Rattle.bk_statics.specs.Components.{is_machine}
use Rattle.bk_phases.specs.Statement.{Statement, skip_at, assign_at, update_at, member_at, such_at, call_at, pre_at, assert_at, if_at, guard_at, choice_at, else_at, branches_at, any_at, var_at, loop_at, par_at, seq_at, within}
use Rattle.bk_phases.specs.Types.{Types}
use Rattle.bk_phases.specs.Operations.{is_ordered, misplaced}
use Rattle.bk_phases.specs.LevelOf.{elaborated}
use Rattle.bk_phases.specs.Laws.{StandsRight}
use Rattle.bk_phases.proofs.Lists.{flat-none-left, flat-none-right}

unless-then : (b : Bool) (at : ℕ) (fs : List ℕ) → unless b at ++ fs ≡ [] → (b ≡ true) × (fs ≡ [])
unless-then true at fs h = (refl, h)
unless-then false at fs h = some-fault at fs h

sequence-then : (kind : Kind) → not (is_machine kind) ≡ true → MaySequence kind
sequence-then Machine h = absurd (cc)
sequence-then Refinement h = tt
sequence-then Implementation h = tt

loop-then : (kind : Kind) → is_implementing kind ≡ true → MayLoop kind
loop-then Machine h = absurd (cc)
loop-then Refinement h = absurd (cc)
loop-then Implementation h = tt

-- inside || nothing is in order
unordered : (types : Types) (s : Statement) → flat_map is_ordered (within s) ≡ [] → IsUnordered (elaborated types s)
unordered types (skip_at at) h = tt
unordered types (assign_at at xs es) h = tt
unordered types (update_at at f e v) h = tt
unordered types (member_at at x z e) h = (tt, tt)
unordered types (such_at at xs p) h = tt
unordered types (call_at at es) h = tt
unordered types (pre_at at p s) h = unordered types s h
unordered types (assert_at at p s) h = unordered types s h
unordered types (if_at at p s t) h = (unordered types s (flat-none-left is_ordered (within s) (within t) h), unordered types t (flat-none-right is_ordered (within s) (within t) h))
unordered types (guard_at at p s) h = unordered types s h
unordered types (choice_at at s t) h = (unordered types s (flat-none-left is_ordered (within s) (within t) h), unordered types t (flat-none-right is_ordered (within s) (within t) h))
unordered types (else_at at s t) h = (unordered types s (flat-none-left is_ordered (within s) (within t) h), unordered types t (flat-none-right is_ordered (within s) (within t) h))
unordered types (branches_at at s) h = unordered types s h
unordered types (any_at at xs p s) h = (tt, unordered types s h)
unordered types (var_at at xs s) h = some-fault at (flat_map is_ordered (within s)) h
unordered types (loop_at at p s i v) h = some-fault at (flat_map is_ordered (within s)) h
unordered types (par_at at s t) h = (unordered types s (flat-none-left is_ordered (within s) (within t) h), unordered types t (flat-none-right is_ordered (within s) (within t) h))
unordered types (seq_at at s t) h = some-fault at (flat_map is_ordered (within s ++ within t)) h

module _ (kind : Kind) (types : Types) where
  two : (s t : Statement) → flat_map (misplaced kind) (within s ++ within t) ≡ [] → (flat_map (misplaced kind) (within s) ≡ []) × (flat_map (misplaced kind) (within t) ≡ [])
  two s t h = (flat-none-left (misplaced kind) (within s) (within t) h, flat-none-right (misplaced kind) (within s) (within t) h)

  pub stands : (s : Statement) → flat_map (misplaced kind) (within s) ≡ [] → StandsRight kind types s
  stands (skip_at at) h = record { may = tt; loops = tt }
  stands (assign_at at xs es) h = record { may = tt; loops = tt }
  stands (update_at at f e v) h = record { may = tt; loops = tt }
  stands (member_at at x z e) h = record { may = (inl tt, tt); loops = tt }
  stands (such_at at xs p) h = record { may = tt; loops = tt }
  stands (call_at at es) h = record { may = tt; loops = tt }
  stands (pre_at at p s) h = let r = stands s h in record { may = r.may; loops = r.loops }
  stands (assert_at at p s) h = let r = stands s h in record { may = r.may; loops = r.loops }
  stands (if_at at p s t) h = let b = two s t h in let r = stands s b.0 in let q = stands t b.1 in record { may = (r.may, q.may); loops = (r.loops, q.loops) }
  stands (guard_at at p s) h = let r = stands s h in record { may = r.may; loops = r.loops }
  stands (choice_at at s t) h = let b = two s t h in let r = stands s b.0 in let q = stands t b.1 in record { may = (r.may, q.may); loops = (r.loops, q.loops) }
  stands (else_at at s t) h = let b = two s t h in let r = stands s b.0 in let q = stands t b.1 in record { may = (r.may, q.may); loops = (r.loops, q.loops) }
  stands (branches_at at s) h = let r = stands s h in record { may = r.may; loops = r.loops }
  stands (any_at at xs p s) h = let r = stands s h in record { may = (inl tt, r.may); loops = r.loops }
  stands (var_at at xs s) h =
      let u = unless-then (not (is_machine kind)) at (flat_map (misplaced kind) (within s)) h in
      let r = stands s u.1 in
      record { may = (inr (sequence-then kind u.0), r.may); loops = r.loops }
  stands (loop_at at p s i v) h =
      let u = unless-then (is_implementing kind) at (flat_map (misplaced kind) (within s)) h in
      let r = stands s u.1 in
      record { may = r.may; loops = (loop-then kind u.0, r.loops) }
  stands (par_at at s t) h =
      let inner = none-left (flat_map is_ordered (within s ++ within t)) (flat_map (misplaced kind) (within s ++ within t)) h in
      let b = two s t (none-right (flat_map is_ordered (within s ++ within t)) (flat_map (misplaced kind) (within s ++ within t)) h) in
      let r = stands s b.0 in
      let q = stands t b.1 in
      record {
        may = (unordered types s (flat-none-left is_ordered (within s) (within t) inner), unordered types t (flat-none-right is_ordered (within s) (within t) inner), r.may, q.may);
        loops = (r.loops, q.loops);
      }
  stands (seq_at at s t) h =
      let u = unless-then (not (is_machine kind)) at (flat_map (misplaced kind) (within s ++ within t)) h in
      let b = two s t u.1 in
      let r = stands s b.0 in
      let q = stands t b.1 in
      record { may = (sequence-then kind u.0, r.may, q.may); loops = (r.loops, q.loops) }
