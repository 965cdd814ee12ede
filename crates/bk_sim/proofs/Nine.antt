-- Code of the counter that stores 9 for 10 does not follow.
use Rattle.std.proofs.Common.{◌≡◌, ℕ, ℤ, pos, List, [], ◌∷◌, refl, ◌∙◌, subst, true, false, arith}
use Rattle.bk_val.specs.Value.{int}
use Rattle.bk_form.specs.Operators.{is_equal}
use Rattle.bk_form.specs.Search.{Finder}
use Rattle.bk_dev.specs.Machine.{Abstract, IsCall, Legal}
use Rattle.bk_dev.specs.Counter.{counter, setmax}
use Rattle.bk_dev.proofs.Counting.{reaches-ten}
use Rattle.bk_code.specs.declared.image.Image.{Image}
use Rattle.bk_code.specs.Step.{Config}
use Rattle.bk_code.specs.Run.{Done, Ends}
use Rattle.bk_sim.specs.Shows.{Linked}
use Rattle.bk_sim.specs.Follows.{IsBegun, started}
use Rattle.bk_sim.specs.CounterCode.{counter_code, setmax_entry}
use Rattle.bk_sim.specs.Laws.{NineDoesNotFollow}

abbrev nine : Image
nine = counter_code 9

abbrev zeros : List ℤ
zeros = pos 0 ∷ pos 0 ∷ []

abbrev config : ℕ → List ℤ → List ℤ → Config
config n stack cells = record { place = n; stack = stack; cells = cells }

-- the initialisation leaves 0 in both cells
begun : IsBegun nine 3 zeros
begun = (3, config 2 [] zeros, (omega (arith), ((config 1 (pos 0 ∷ []) zeros, (config 0 [] zeros, refl, refl), refl), refl)), refl)

-- setmax leaves 9
stores-nine : Ends nine 3 (started setmax_entry setmax zeros) (Done 3) (config 8 [] (pos 9 ∷ pos 0 ∷ []))
stores-nine = (omega (arith), ((config 7 (pos 9 ∷ []) zeros, (config 6 [] zeros, refl, refl), refl), refl))

is_call : IsCall counter setmax
is_call = record { op = omega (arith); types = refl; range = refl }

-- no state that is linked to 9 shows 10
not-linked : (find : Finder) (a : Abstract) → a ≡ int (pos 10) ∷ [] → Linked find counter a (pos 9 ∷ pos 0 ∷ []) → ⊥
not-linked find a h l =
    let e = l.0 in
    let k = l.1 in
    let shown : e 0 ∷ [] ≡ int (pos 10) ∷ [] = k.abstract_state ∙ h in
    let ten : e 0 ≡ int (pos 10) = cc in
    let held : e 1 ∷ [] ≡ int (pos 9) ∷ [] = k.cells.variables in
    let stored : e 1 ≡ int (pos 9) = cc in
    let same : is_equal (e 1) (e 0) ≡ true = k.joined.1.1.0 in
    let clash : false ≡ true = subst (λ x. is_equal (int (pos 9)) x ≡ true) ten (subst (λ x. is_equal x (e 0) ≡ true) stored same) in
    cc

pub nine_does_not_follow : NineDoesNotFollow
nine_does_not_follow find f =
    let legal : Legal find counter (setmax ∷ []) [] = λ a o e g. refl in
    let good = f.session 3 zeros zeros [] setmax [] setmax_entry (record { begun = begun; calls = tt; call = is_call; done = refl; legal = legal; named = refl }) (Done 3) (config 8 [] (pos 9 ∷ pos 0 ∷ [])) stores-nine in
    not-linked find good.0 ((reaches-ten find good.0).0 good.1) good.2
