-- Linear forms that lie within 128 bits, by their entries.
use Rattle.std.proofs.Common.{◌≡◌, ℕ, zero, suc, ℤ, pos, negsuc, ◌+ℤ◌, ◌*ℤ◌, Bool, true, false, ◌&&◌, List, replicate, length, if◌then◌else◌, refl, ap, sym, ◌∙◌, Some, None}
use Rattle.std.specs.List.{list_all}
use Rattle.bk_lin.specs.Inequality.{Inequality}
use Rattle.bk_val.specs.Value.{fits_i128}
use Rattle.bk_lin.specs.Layout.{shown}
use Rattle.bk_arith.specs.declared.joining.Join.{Join}
use Rattle.bk_arith.specs.declared.joining.Join.TheVariants.{Sum, Difference}
use Rattle.bk_arith.specs.Reading.{if_narrow}
use Rattle.bk_arith.specs.Layout.{entry_of, entries_of, combined}
use Rattle.bk_arith.proofs.Entries.{minus_one, entries_of-sum, entries_of-difference}

if_both : (a b : Bool) (p : Inequality) → a ≡ true → b ≡ true → (if a && b then Some p else None) ≡ Some p
if_both true true p h k = refl
if_both true false p h k = absurd (cc)
if_both false b p h k = absurd (cc)

unless_second : (a b : Bool) (p : Inequality) → b ≡ false → (if a && b then Some p else None) ≡ None
unless_second true true p h = absurd (cc)
unless_second true false p h = refl
unless_second false b p h = refl

pub narrow : (z : ℤ) (cs : List ℤ) → fits_i128 z ≡ true → list_all fits_i128 cs ≡ true → if_narrow (shown cs z) ≡ Some (shown cs z)
narrow z cs h k = if_both (fits_i128 z) (list_all fits_i128 cs) (shown cs z) h k

pub wide_coefs : (z : ℤ) (cs : List ℤ) → list_all fits_i128 cs ≡ false → if_narrow (shown cs z) ≡ None
wide_coefs z cs h = unless_second (fits_i128 z) (list_all fits_i128 cs) (shown cs z) h

-- two forms joined are their entries joined
pub joined-entries : (join : Join) (p q : Inequality) → length p.coefs ≡ length q.coefs → combined join p q ≡ shown (entries_of join p.coefs q.coefs) (entry_of join p.constant q.constant)
joined-entries Sum p q h = ap (λ cs. shown cs (p.constant +ℤ q.constant)) (sym (entries_of-sum p.coefs q.coefs h))
joined-entries Difference p q h =
    ap (λ cs. shown cs (p.constant +ℤ negsuc 0 *ℤ q.constant)) (sym (entries_of-difference p.coefs q.coefs h))
    ∙ ap (λ z. shown (entries_of Difference p.coefs q.coefs) z) (sym (minus_one p.constant q.constant))

pub zeros_fit : (n : ℕ) → list_all fits_i128 (replicate n (pos 0)) ≡ true
zeros_fit zero = refl
zeros_fit (suc n) = zeros_fit n
