use Rattle.std.proofs.Common.{◌≡◌, ◌∙◌, sym, refl, ap, subst, get_or, length, List, ◌∷◌, [], ℕ, arith, true}
use Rattle.bk_dev.specs.Development.{Level}
use Rattle.bk_gsl.specs.State.{among}
use Rattle.bk_scope.specs.Shown.{above_shown}
use Rattle.bk_check_b0.proofs.Arraying.{domain-step, domains-found, among-at, domains_told}
use Rattle.bk_scope.proofs.Making.{nothing-more}
use Rattle.bk_check_b0.proofs.arrays.array_domains.Goals as goal

pub bounds-own-0 : goal.bounds-own-0
bounds-own-0 c = omega (arith, ap length c.requires.1)

pub array_domain-requires : goal.array_domain-requires
array_domain-requires c =
    c.requires.1 ∙ ap (λ (k : Level). k ∷ []) (sym (c.index-own-0.is ∙ ap (λ (ls : List Level). get_or ls 0 c.index-own-0.result) c.requires.1))

pub loop-variable-preserved : goal.loop-variable-preserved
loop-variable-preserved c = λ dev d.
    let l = c.index-own-0.result in
    let xs = l.vars in
    let i = c.loop-variable.variable-index in
    let es = c.deref-variable-items.result.now in
    let alone : c.args.own.now ≡ l ∷ [] = c.requires.1 ∙ ap (λ (k : Level). k ∷ []) (sym (c.index-own-0.is ∙ ap (λ (ls : List Level). get_or ls 0 l) c.requires.1)) in
    let same : es ≡ xs = c.deref-variable-items.ensures.value ∙ ap (λ (k : Level). k.vars) c.level.view_is in
    let one : among xs (get_or es i 0) ≡ true = subst (λ (ys : List ℕ). among xs (get_or ys i 0) ≡ true) (sym same) (among-at xs i (omega (arith, ap length same))) in
    domain-step dev xs es i c.in_ok-domain.domain c.loop-variable.found.items c.push_pair.new.found.items (domains_told dev xs) same c.loop-variable-test.true
    (c.in_ok-domain.ensures dev d (d.types l alone (get_or es i 0) one)) c.in_ok-push_pair.ensures (c.loop-variable.invariant dev d)

pub returns : goal.returns
returns c = λ dev d x.
    let l = c.index-own-0.result in
    let xs = l.vars in
    let alone : c.args.own.now ≡ l ∷ [] = c.requires.1 ∙ ap (λ (k : Level). k ∷ []) (sym (c.index-own-0.is ∙ ap (λ (ls : List Level). get_or ls 0 l) c.requires.1)) in
    let same : c.deref-variable-items.result.now ≡ xs = c.deref-variable-items.ensures.value ∙ ap (λ (k : Level). k.vars) c.level.view_is in
    domains-found dev (above_shown c.args.above).levels c.args.own.now l c.loop-variable.found.items x d.levels alone
    (nothing-more (λ (ys : List ℕ). domains_told dev ys) refl xs c.loop-variable.variable-index c.loop-variable.found.items (domains_told dev xs) (omega (arith, ap length same)) (c.loop-variable.invariant dev d))
