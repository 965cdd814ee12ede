use Rattle.bk_elab_terms.proofs.Conjoined.{clue-taken, clues-both-done, ranges-both-done, count-both-done, count-one, where-done, body-none, body-some}
use Rattle.bk_elab_terms.proofs.Forms.{two-parts-done}
use Rattle.bk_elab_terms.proofs.Quantified.{premise-missing}
use Rattle.bk_elab_terms.proofs.Ranging.{next-ranges, next-faults}
use Rattle.bk_elab_terms.proofs.Readings.{stands-through}
use Rattle.bk_elab_terms.proofs.Remembered.{clue-untold, clue-stays, kept-both, kept-more, range-lasting, range-stays, kept-ranges, kept-ranged, side-joined, one-read, one-left, both-read, kept-served, body-served, rest-both-kept, left-both-kept, rest-idle, rest-added, left-alone, kept-pushed}
use Rattle.bk_elab_terms.specs.Conjuncts.{implies_sides, shown_pair, shown_infix}
use Rattle.bk_elab_terms.specs.Forms.{two_reading}
use Rattle.bk_elab_terms.specs.Kept.{names_untyped, dollar_untyped, has_unsettled, IsKept, AreKept}
use Rattle.bk_elab_terms.specs.Shown.{IsRead}
use Rattle.bk_elab_terms.specs.Sights.{around_of, bounds_of, bounds_from, clues_by, ranges_as, IsRest, Stands, TellsType, TellsRange, names_below, names_of, read_by}
use Rattle.bk_elab_terms.specs.declared.binder.Ranged.{Ranged}
use Rattle.bk_elab_terms.specs.declared.form.TwoParts.TheVariants.{Infix}
use Rattle.bk_elab_terms.specs.declared.outcome.Step.{Step}
use Rattle.bk_elab_terms.specs.declared.sight.Local.{Local}
use Rattle.bk_elab_terms.specs.declared.sight.Reader.{Reader}
use Rattle.bk_raw.specs.Meaning.Binders.{with_conjunct, bound_names}
use Rattle.bk_raw.specs.Trees.FreeNames.{conjuncts}
use Rattle.bk_raw.specs.Trees.RawTree.{RawTree}
use Rattle.bk_raw.specs.Meaning.Outcome.{Reading}
use Rattle.bk_raw.specs.Meaning.TermReading.{place_of}
use Rattle.bk_raw.specs.declared.operator.InfixOp.TheVariants.{And}
use Rattle.std.proofs.Common.{◌≡◌, Bool, true, List, Result, Ok, Err, drop, sym, ◌∙◌, ap, subst, rules, arith, length, not, ◌&&◌, ℕ, IfOk, ◌++◌, []}
use Rattle.std.proofs.lemmas.List.{take_rest}
use Rattle.std.specs.Prelude.{Option, None, Some, OnOk}
use Rattle.bk_elab_terms.proofs.sight.Reader.+reading.Goals as goal

pub numbered_ranges-loop-index-preserved : goal.numbered_ranges-loop-index-preserved
numbered_ranges-loop-index-preserved t c = record {
  ranges =
      next-ranges c.args.self.now c.loop-index.self c.loop-index.found.names.items c.push.new.self.items c.loop-index.found.fault c.earlier-found.result c.in_ok-ranged.fault c.in_ok-ranged.ranged c.args.ranges.now c.loop-index.index c.len-standing.result c.index-ranges-index.result c.in_ok-read.read
      c.loop-index-test.true c.index-ranges-index.is (omega (arith, c.len-standing.ensures, c.args.self.now.locals.ok.0)) c.loop-index.invariant.ranges c.loop-index.invariant.faults c.loop-index.invariant.stands c.in_ok-read.ensures.read c.in_ok-ranged.ensures c.earlier-found.ensures c.in_ok-push.ensures.items;
  faults =
      next-faults c.args.self.now c.loop-index.self c.loop-index.found.names.items c.push.new.self.items c.loop-index.found.fault c.earlier-found.result c.in_ok-ranged.fault c.in_ok-ranged.ranged c.args.ranges.now c.loop-index.index c.len-standing.result c.index-ranges-index.result c.in_ok-read.read
      c.loop-index-test.true c.index-ranges-index.is (omega (arith, c.len-standing.ensures, c.args.self.now.locals.ok.0)) c.loop-index.invariant.ranges c.loop-index.invariant.faults c.loop-index.invariant.stands c.in_ok-read.ensures.read c.in_ok-ranged.ensures c.earlier-found.ensures c.in_ok-push.ensures.items;
  stands = stands-through c.args.self.now c.loop-index.self c.read.new.self c.loop-index.invariant.stands c.in_ok-read.ensures.stands;
}

pub two_parts-returns-clause-read : goal.two_parts-returns-clause-read
two_parts-returns-clause-read t c =
    two-parts-done c.with_parts.result c.args.self.now c.read.new.self c.args.form c.args.at c.args.left.now c.args.right.now c.in_ok-one.one c.in_ok-other.other c.in_ok-one.ensures.read c.in_ok-one.ensures.stands c.in_ok-other.ensures.read c.with_parts.ensures

pub clue-returns-then-branch-clause-clues : goal.clue-returns-then-branch-clause-clues
clue-returns-then-branch-clause-clues t c =
    let tells : TellsType (bounds_from c.args.first c.args.self.now) c.args.term.now c.in-Some.conjunct.op c.in-Some.conjunct.side.now c.in-Some.conjunct.place =
    subst (λ (ls : List Local). TellsType (bounds_of ls) c.args.term.now c.in-Some.conjunct.op c.in-Some.conjunct.side.now c.in-Some.conjunct.place) (take_rest c.deref.result.now c.args.first ∙ ap (λ (ls : List Local). drop c.args.first ls) c.deref.ensures.value) c.in-Some.ensures
    in
    clue-untold c.args.first c.args.self.now c.args.term.now c.in-Some.conjunct.side.now c.in-Some.conjunct.op c.in-Some.conjunct.place tells (λ m. c.in_ok-is_untold.ensures c.if-branch.true m)

pub clue-returns-clause-clues : goal.clue-returns-clause-clues
clue-returns-clause-clues t c =
    let tells : TellsType (bounds_from c.args.first c.args.self.now) c.args.term.now c.in-Some.conjunct.op c.in-Some.conjunct.side.now c.in-Some.conjunct.place =
    subst (λ (ls : List Local). TellsType (bounds_of ls) c.args.term.now c.in-Some.conjunct.op c.in-Some.conjunct.side.now c.in-Some.conjunct.place) (take_rest c.deref.result.now c.args.first ∙ ap (λ (ls : List Local). drop c.args.first ls) c.deref.ensures.value) c.in-Some.ensures
    in
    clue-taken c.args.first c.args.self.now c.read.new.self c.take_type.new.self c.args.term.now c.in-Some.conjunct.side.now c.in-Some.conjunct.op c.in-Some.conjunct.place c.in_ok-read.read c.in_ok-ty.ty
    tells c.in_ok-read.ensures.read c.in_ok-read.ensures.stands c.in_ok-ty.ensures c.take_type.ensures.typed

pub clue-returns-clause-kept : goal.clue-returns-clause-kept
clue-returns-clause-kept t c =
    let tells : TellsType (bounds_from c.args.first c.args.self.now) c.args.term.now c.in-Some.conjunct.op c.in-Some.conjunct.side.now c.in-Some.conjunct.place =
    subst (λ (ls : List Local). TellsType (bounds_of ls) c.args.term.now c.in-Some.conjunct.op c.in-Some.conjunct.side.now c.in-Some.conjunct.place) (take_rest c.deref.result.now c.args.first ∙ ap (λ (ls : List Local). drop c.args.first ls) c.deref.ensures.value) c.in-Some.ensures
    in
    let settled : c.is_settled-settled.result ≡ (not (names_untyped (bounds_from c.args.first c.args.self.now) c.in-Some.conjunct.side.now) && not (has_unsettled c.args.first (length (drop c.args.first c.args.self.now.locals.items)) (dollar_untyped (bounds_from c.args.first c.args.self.now)) c.in-Some.conjunct.side.now)) =
    subst (λ (ls : List Local). c.is_settled-settled.result ≡ (not (names_untyped (bounds_of ls) c.in-Some.conjunct.side.now) && not (has_unsettled c.args.first (length ls) (dollar_untyped (bounds_of ls)) c.in-Some.conjunct.side.now))) (take_rest c.deref-2.result.now c.args.first ∙ ap (λ (ls : List Local). drop c.args.first ls) c.deref-2.ensures.value) c.is_settled-settled.ensures
    in
    clue-stays c.args.first c.args.self.now c.take_type.new.self c.args.term.now c.in-Some.conjunct.side.now c.in-Some.conjunct.op c.in-Some.conjunct.place c.in_ok-read.read c.is_settled-settled.result c.kept_if.result
    c.requires.long tells c.in_ok-read.ensures.read settled
    (clue-taken c.args.first c.args.self.now c.read.new.self c.take_type.new.self c.args.term.now c.in-Some.conjunct.side.now c.in-Some.conjunct.op c.in-Some.conjunct.place c.in_ok-read.read c.in_ok-ty.ty
    tells c.in_ok-read.ensures.read c.in_ok-read.ensures.stands c.in_ok-ty.ensures c.take_type.ensures.typed)
    c.kept_if.ensures

pub clues-returns-in-Some-clause-clues : goal.clues-returns-in-Some-clause-clues
clues-returns-in-Some-clause-clues t c =
    clues-both-done c.clues-in-Some.result c.args.first c.args.self.now c.clues.new.self c.clues-in-Some.new.self c.args.term.now c.in-Some.left.now c.in-Some.right.now
    (sym c.and_sides.ensures ∙ ap shown_pair c.in-Some.is) c.in_ok-clues.ensures.clues c.in_ok-clues.ensures.stands c.clues-in-Some.ensures.clues

pub clues-returns-in-Some-clause-kept : goal.clues-returns-in-Some-clause-kept
clues-returns-in-Some-clause-kept t c =
    kept-both c.clues-in-Some.result c.args.first c.args.self.now c.clues.new.self c.clues-in-Some.new.self c.args.term.now c.in-Some.left.now c.in-Some.right.now c.args.kept.now.items c.clues.new.kept.items c.clues-in-Some.new.kept.items
    (sym c.and_sides.ensures ∙ ap shown_pair c.in-Some.is) c.in_ok-clues.ensures.stands c.in_ok-clues.ensures.kept c.clues-in-Some.ensures.kept

pub clues-returns-clause-kept : goal.clues-returns-clause-kept
clues-returns-clause-kept t c =
    kept-more c.args.first c.args.self.now c.clue.new.self c.args.term.now c.args.kept.now.items c.push_back.new.self.items c.in_ok-side.side
    (sym c.and_sides.ensures ∙ ap shown_pair c.in_default.is) c.in_ok-side.ensures.clues c.in_ok-side.ensures.kept c.in_ok-push_back.ensures.items

pub range-returns-then-is_lasting-clause-ranges : goal.range-returns-then-is_lasting-clause-ranges
range-returns-then-is_lasting-clause-ranges t c =
    let tells : TellsRange c.args.all.now (ranges_as c.args.names.now.items) c.args.term.now c.in-Some.conjunct.op c.in-Some.conjunct.side.now c.in-Some.conjunct.place =
    subst (λ (rs : List Ranged). TellsRange c.args.all.now (ranges_as rs) c.args.term.now c.in-Some.conjunct.op c.in-Some.conjunct.side.now c.in-Some.conjunct.place) c.deref.ensures.value c.in-Some.ensures
    in
    range-lasting c.args.self.now c.args.all.now c.args.number (ranges_as c.args.names.now.items) c.args.term.now c.in-Some.conjunct.side.now c.in-Some.conjunct.op c.in-Some.conjunct.place c.in_ok-read.read
    tells c.in_ok-read.ensures.read (sym c.is_lasting.ensures ∙ c.if-is_lasting.true)

pub range-returns-then-is_lasting-clause-kept : goal.range-returns-then-is_lasting-clause-kept
range-returns-then-is_lasting-clause-kept t c =
    let tells : TellsRange c.args.all.now (ranges_as c.args.names.now.items) c.args.term.now c.in-Some.conjunct.op c.in-Some.conjunct.side.now c.in-Some.conjunct.place =
    subst (λ (rs : List Ranged). TellsRange c.args.all.now (ranges_as rs) c.args.term.now c.in-Some.conjunct.op c.in-Some.conjunct.side.now c.in-Some.conjunct.place) c.deref.ensures.value c.in-Some.ensures
    in
    range-stays c.args.self.now c.args.all.now (ranges_as c.args.names.now.items) c.args.term.now c.in-Some.conjunct.side.now c.in-Some.conjunct.op c.in-Some.conjunct.place c.in_ok-read.read c.is_plain.result c.kept_if.result
    tells c.in_ok-read.ensures.read (sym c.is_lasting.ensures ∙ c.if-is_lasting.true) c.is_plain.ensures c.kept_if.ensures

pub ranges-returns-in-Some-clause-ranges : goal.ranges-returns-in-Some-clause-ranges
ranges-returns-in-Some-clause-ranges t c =
    ranges-both-done c.ranges-in-Some-2.result c.args.self.now c.ranges-in-Some.new.self c.args.all.now c.args.number c.in_ok-next.next _ _ _ c.args.term.now c.in-Some.left.now c.in-Some.right.now
    (sym c.and_sides.ensures ∙ ap shown_pair c.in-Some.is) c.in_ok-next.ensures.count c.in_ok-next.ensures.ranges c.in_ok-next.ensures.stands c.ranges-in-Some-2.ensures.ranges

pub ranges-returns-in-Some-clause-kept : goal.ranges-returns-in-Some-clause-kept
ranges-returns-in-Some-clause-kept t c =
    kept-ranges c.ranges-in-Some-2.result c.args.self.now c.ranges-in-Some.new.self (bound_names c.args.all.now) c.args.term.now c.in-Some.left.now c.in-Some.right.now c.args.kept.now.items c.ranges-in-Some.new.kept.items c.ranges-in-Some-2.new.kept.items
    (sym c.and_sides.ensures ∙ ap shown_pair c.in-Some.is) c.in_ok-next.ensures.stands c.in_ok-next.ensures.kept c.ranges-in-Some-2.ensures.kept

pub ranges-returns-in-Some-clause-count : goal.ranges-returns-in-Some-clause-count
ranges-returns-in-Some-clause-count t c =
    count-both-done c.ranges-in-Some-2.result c.args.number c.in_ok-next.next c.args.term.now c.in-Some.left.now c.in-Some.right.now (sym c.and_sides.ensures ∙ ap shown_pair c.in-Some.is) c.in_ok-next.ensures.count c.ranges-in-Some-2.ensures.count

pub ranges-returns-clause-kept : goal.ranges-returns-clause-kept
ranges-returns-clause-kept t c =
    kept-ranged (around_of c.args.self.now).max (names_of c.args.self.now) (bound_names c.args.all.now) c.args.term.now c.args.kept.now.items c.push_back.new.self.items c.in_ok-side.side
    (sym c.and_sides.ensures ∙ ap shown_pair c.in_default.is) c.in_ok-side.ensures.kept c.in_ok-push_back.ensures.items

pub ranges-returns-clause-count : goal.ranges-returns-clause-count
ranges-returns-clause-count t c = count-one c.args.number c.in_ok-behind.behind c.args.term.now (sym c.and_sides.ensures ∙ ap shown_pair c.in_default.is) c.in_ok-behind.ensures

pub conjunct-returns-clause-read : goal.conjunct-returns-clause-read
conjunct-returns-clause-read t c =
    subst (λ (k : Option Step). IfOk c.with_parts.result (λ s. IsKept (around_of c.args.self.now).max (names_of c.args.self.now) k c.args.term.now → IsRead s (read_by c.args.self.now c.args.term.now))) (sym c.in-Some.is)
    (side-joined c.with_parts.result c.args.self.now c.args.term.now c.in-Some-infix_sides.left.now c.in-Some-infix_sides.right.now c.in-Some-infix_sides.op c.in-Some.side c.in_ok-one.one
    (sym c.infix_sides.ensures ∙ ap shown_infix c.in-Some-infix_sides.is) c.in_ok-one.ensures.read
    (subst (λ (n : ℕ). IfOk c.with_parts.result (λ s. (q p : Reading) → IsRead c.in_ok-one.one q → IsRead c.in-Some.side p → IsRead s (two_reading (Infix c.in-Some-infix_sides.op) n c.in-Some-infix_sides.left.now c.in-Some-infix_sides.right.now q p)))
    (ap place_of c.term.view_is) c.with_parts.ensures))

pub conjunction-returns-in_default-clause-read : goal.conjunction-returns-in_default-clause-read
conjunction-returns-in_default-clause-read t c =
    one-read c.conjunct.result c.args.self.now c.args.term.now c.next_kept-side.result c.args.kept.now.items (sym c.and_sides.ensures ∙ ap shown_pair c.in_default.is) c.next_kept-side.ensures.next c.conjunct.ensures.read

pub conjunction-returns-in_default-clause-kept : goal.conjunction-returns-in_default-clause-kept
conjunction-returns-in_default-clause-kept t c =
    one-left c.conjunct.result c.args.self.now c.args.term.now c.args.kept.now.items c.next_kept-side.new.kept.items (sym c.and_sides.ensures ∙ ap shown_pair c.in_default.is) c.next_kept-side.ensures.rest

pub conjunction-returns-clause-read : goal.conjunction-returns-clause-read
conjunction-returns-clause-read t c =
    both-read c.with_parts.result c.args.self.now c.conjunction.new.self c.args.term.now c.in-Some.left.now c.in-Some.right.now c.in_ok-one.one c.in_ok-other.other c.args.kept.now.items c.conjunction.new.kept.items
    (sym c.and_sides.ensures ∙ ap shown_pair c.in-Some.is) c.in_ok-one.ensures.stands c.in_ok-one.ensures.read c.in_ok-one.ensures.kept c.in_ok-other.ensures.read
    (subst (λ (n : ℕ). IfOk c.with_parts.result (λ s. (q p : Reading) → IsRead c.in_ok-one.one q → IsRead c.in_ok-other.other p → IsRead s (two_reading (Infix And) n c.in-Some.left.now c.in-Some.right.now q p)))
    (ap place_of c.term.view_is) c.with_parts.ensures)

-- a body that is no implication types no name
premise-alone : {A E : Type 0} (r : Result A E) (universal : Bool) (first : ℕ) (old new : Reader) (t : RawTree) → universal ≡ true → implies_sides t ≡ None → OnOk r (Stands old new) → OnOk r (bounds_from first new ≡ clues_by universal (around_of old).max (names_below first old) (bounds_from first old) t)
premise-alone (Err x) universal first old new t u k h = tt
premise-alone (Ok x) universal first old new t u k h =
    ap (λ (ls : List Local). bounds_of (drop first ls)) h.locals ∙ (premise-missing first old t k ∙ ap (λ (b : Bool). clues_by b (around_of old).max (names_below first old) (bounds_from first old) t) (sym u))

pub typed_body-returns-in_default-clause-clues : goal.typed_body-returns-in_default-clause-clues
typed_body-returns-in_default-clause-clues t c =
    premise-alone c.read.result c.args.universal c.args.first c.args.self.now c.read.new.self c.args.body.now c.if-not-universal.false (sym c.implies_sides.ensures ∙ ap shown_pair c.in_default.is) c.read.ensures.stands

pub typed_conjunction-returns-clause-read : goal.typed_conjunction-returns-clause-read
typed_conjunction-returns-clause-read t c =
    body-served c.conjunction.result c.clues.new.self c.conjunction.new.self c.args.term.now c.clues.new.kept.items
    (kept-served c.args.first c.args.self.now c.clues.new.self c.args.term.now c.new-kept.result.items c.clues.new.kept.items c.new-kept.ensures.items c.in_ok-clues.ensures.stands c.in_ok-clues.ensures.kept)
    c.conjunction.ensures.stands c.conjunction.ensures.read

pub rest-returns-in-Some-clause-rest : goal.rest-returns-in-Some-clause-rest
rest-returns-in-Some-clause-rest t c =
    rest-both-kept c.rest-in-Some.result c.args.self.now c.rest.new.self (ranges_as c.args.names.now) c.args.number c.in_ok-next.next c.args.left_over.now c.rest.new.left_over c.rest-in-Some.new.left_over c.args.term.now c.in-Some.left.now c.in-Some.right.now
    c.args.kept.now.items c.rest.new.kept.items (sym c.and_sides.ensures ∙ ap shown_pair c.in-Some.is) c.in_ok-next.ensures.count c.in_ok-next.ensures.rest c.in_ok-next.ensures.kept c.in_ok-next.ensures.stands c.rest-in-Some.ensures.rest

pub rest-returns-in-Some-clause-kept : goal.rest-returns-in-Some-clause-kept
rest-returns-in-Some-clause-kept t c =
    left-both-kept c.rest-in-Some.result c.args.self.now c.rest.new.self c.args.term.now c.in-Some.left.now c.in-Some.right.now c.args.kept.now.items c.rest.new.kept.items c.rest-in-Some.new.kept.items
    (sym c.and_sides.ensures ∙ ap shown_pair c.in-Some.is) c.in_ok-next.ensures.stands c.in_ok-next.ensures.kept c.rest-in-Some.ensures.kept

pub rest-returns-in-Some-clause-count : goal.rest-returns-in-Some-clause-count
rest-returns-in-Some-clause-count t c =
    count-both-done c.rest-in-Some.result c.args.number c.in_ok-next.next c.args.term.now c.in-Some.left.now c.in-Some.right.now (sym c.and_sides.ensures ∙ ap shown_pair c.in-Some.is) c.in_ok-next.ensures.count c.rest-in-Some.ensures.count

pub rest-returns-then-is_used-clause-rest : goal.rest-returns-then-is_used-clause-rest
rest-returns-then-is_used-clause-rest t c =
    where-done c.following.result
    (rest-idle c.args.self.now (ranges_as c.args.names.now) c.args.number c.args.left_over.now c.args.term.now c.args.kept.now.items (sym c.and_sides.ensures ∙ ap shown_pair c.in_default.is) (sym c.is_used.ensures ∙ c.if-is_used.true))

pub rest-returns-then-is_used-clause-kept : goal.rest-returns-then-is_used-clause-kept
rest-returns-then-is_used-clause-kept t c =
    where-done c.following.result
    (left-alone c.args.self.now c.args.term.now c.args.kept.now.items c.next_kept-side.new.kept.items (sym c.and_sides.ensures ∙ ap shown_pair c.in_default.is) c.next_kept-side.ensures.rest)

pub rest-returns-clause-rest : goal.rest-returns-clause-rest
rest-returns-clause-rest t c =
    let joined : (o : Option Reading) (q : Reading) → IsRest c.args.left_over.now o → IsRead c.placed-read.result q → IsRest (Some c.in_ok-with_conjunct.field-0) (with_conjunct o q) =
    subst (λ (b : Option Step). (o : Option Reading) (q : Reading) → IsRest b o → IsRead c.placed-read.result q → IsRest (Some c.in_ok-with_conjunct.field-0) (with_conjunct o q)) c.take.ensures.value c.in_ok-with_conjunct.ensures
    in
    where-done c.following-2.result
    (rest-added c.args.self.now (ranges_as c.args.names.now) c.args.number c.args.left_over.now c.next_kept-side.result c.in_ok-read.read c.placed-read.result c.in_ok-with_conjunct.field-0 c.args.term.now c.args.kept.now.items
    (sym c.and_sides.ensures ∙ ap shown_pair c.in_default.is) (sym c.is_used.ensures ∙ c.if-is_used.false) c.next_kept-side.ensures.next c.in_ok-read.ensures.read c.placed-read.ensures joined)

pub rest-returns-clause-kept : goal.rest-returns-clause-kept
rest-returns-clause-kept t c =
    where-done c.following-2.result
    (left-alone c.args.self.now c.args.term.now c.args.kept.now.items c.next_kept-side.new.kept.items (sym c.and_sides.ensures ∙ ap shown_pair c.in_default.is) c.next_kept-side.ensures.rest)

pub range_names-returns-in_default-clause-body : goal.range_names-returns-in_default-clause-body
range_names-returns-in_default-clause-body t c =
    let kept : AreKept (around_of c.push_ranged.new.self).max (names_of c.push_ranged.new.self) c.ranges-2.new.kept.items (conjuncts c.args.body.now ++ []) =
    kept-pushed c.args.self.now c.ranges-2.new.self c.push_ranged.new.self c.args.names.now (ranges_as c.in_ok-found.found.items) c.ranges-2.new.names.items c.as_slice-listed.result.now c.args.body.now c.new-kept.result.items c.ranges-2.new.kept.items
    c.new-kept.ensures.items c.in_ok-found.ensures c.in_ok-ranges.ensures.ranges c.in_ok-ranges.ensures.stands c.as_slice-listed.ensures.value c.in_ok-push_ranged.ensures.stands.scope c.in_ok-push_ranged.ensures.names c.in_ok-ranges.ensures.kept
    in
    body-none c.args.self.now c.push_ranged.new.self c.rest.new.self c.as_slice-listed.result.now c.ranges-2.new.names.items c.args.body.now c.rest.new.left_over c.plain-body.result c.as_slice-listed.ensures.value
    (c.in_ok-push_ranged.ensures.stands.scope ∙ c.in_ok-ranges.ensures.stands.scope) c.in_ok-rest.ensures.stands (c.in_ok-rest.ensures.rest [] kept) c.in_default.is
    (search rules)

pub range_names-returns-clause-body : goal.range_names-returns-clause-body
range_names-returns-clause-body t c =
    let kept : AreKept (around_of c.push_ranged.new.self).max (names_of c.push_ranged.new.self) c.ranges-2.new.kept.items (conjuncts c.args.body.now ++ []) =
    kept-pushed c.args.self.now c.ranges-2.new.self c.push_ranged.new.self c.args.names.now (ranges_as c.in_ok-found.found.items) c.ranges-2.new.names.items c.as_slice-listed.result.now c.args.body.now c.new-kept.result.items c.ranges-2.new.kept.items
    c.new-kept.ensures.items c.in_ok-found.ensures c.in_ok-ranges.ensures.ranges c.in_ok-ranges.ensures.stands c.as_slice-listed.ensures.value c.in_ok-push_ranged.ensures.stands.scope c.in_ok-push_ranged.ensures.names c.in_ok-ranges.ensures.kept
    in
    body-some c.args.self.now c.push_ranged.new.self c.rest.new.self c.as_slice-listed.result.now c.ranges-2.new.names.items c.args.body.now c.rest.new.left_over c.in-Some.body c.as_slice-listed.ensures.value
    (c.in_ok-push_ranged.ensures.stands.scope ∙ c.in_ok-ranges.ensures.stands.scope) c.in_ok-rest.ensures.stands (c.in_ok-rest.ensures.rest [] kept) c.in-Some.is
