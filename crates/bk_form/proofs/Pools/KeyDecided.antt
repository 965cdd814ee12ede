-- `==` of keys decides whether they are the same.
use Rattle.std.proofs.Common.{◌≡◌, true, ◌&&◌, ◌==◌, ℕ, int_eq}
use Rattle.std.specs.Bool.{beq}
use Rattle.std.specs.Bool.{Decides}
use Rattle.std.specs.Cmp.{booleans_Decides}
use Rattle.std.proofs.lemmas.Bool.Decides.{Decides-eqb, Decides-int_eq}
use Rattle.bk_form.specs.contracts.operator.BinOp.{the_parts as binary_parts, as_values as binary_values, the_make as binary_make, the_eta as binary_eta}
use Rattle.bk_form.specs.contracts.operator.UnOp.{the_parts as unary_parts, as_values as unary_values, the_make as unary_make, the_eta as unary_eta}
use Rattle.bk_form.specs.contracts.operator.Domain.{the_parts as domain_parts, as_values as domain_values, the_make as domain_make, the_eta as domain_eta}
use Rattle.bk_form.specs.contracts.operator.BinOpPartialEq.TheImpl.{ghosts as binary_ghosts}
use Rattle.bk_form.specs.contracts.operator.UnOpPartialEq.TheImpl.{ghosts as unary_ghosts}
use Rattle.bk_form.specs.contracts.operator.DomainPartialEq.TheImpl.{ghosts as domain_ghosts}
use Rattle.bk_form.specs.contracts.pool.key.Key.{the_parts, as_values, the_make, the_eta}
use Rattle.bk_form.specs.contracts.pool.key.KeyPartialEq.TheImpl.{ghosts}
use Rattle.bk_form.specs.declared.operator.BinOp.{BinOp}
use Rattle.bk_form.specs.declared.operator.UnOp.{UnOp}
use Rattle.bk_form.specs.declared.operator.Domain.{Domain}
use Rattle.bk_form.specs.declared.pool.key.Key.{Key}
use Rattle.bk_form.proofs.Pools.Deciding.{values-decided, places-decided, none-decided, one-decided, more-decided}

one-number : (x y : ℕ × Unit {0}) → Decides (x.0 == y.0) (x ≡ y)
one-number = one-decided ◌==◌ Decides-eqb

two-numbers : (x y : ℕ × (ℕ × Unit {0})) → Decides ((x.0 == y.0) && (x.1.0 == y.1.0)) (x ≡ y)
two-numbers = more-decided ◌==◌ (λ (a b : ℕ × Unit {0}). a.0 == b.0) Decides-eqb one-number

three-numbers : (x y : ℕ × (ℕ × (ℕ × Unit {0}))) → Decides ((x.0 == y.0) && ((x.1.0 == y.1.0) && (x.1.1.0 == y.1.1.0))) (x ≡ y)
three-numbers = more-decided ◌==◌ (λ (a b : ℕ × (ℕ × Unit {0})). (a.0 == b.0) && (a.1.0 == b.1.0)) Decides-eqb two-numbers

pub binary-decided : (a b : BinOp) → Decides (binary_ghosts.eq a b) (a ≡ b)
binary-decided = places-decided binary_parts tt binary_values binary_make binary_eta

pub unary-decided : (a b : UnOp) → Decides (unary_ghosts.eq a b) (a ≡ b)
unary-decided = places-decided unary_parts tt unary_values unary_make unary_eta

pub domain-decided : (a b : Domain) → Decides (domain_ghosts.eq a b) (a ≡ b)
domain-decided = values-decided domain_parts (λ x y. true, (λ x y. true, (λ x y. true, (λ x y. true, (λ x y. x.0 == y.0, tt))))) (none-decided, (none-decided, (none-decided, (none-decided, (one-number, tt))))) domain_values domain_make domain_eta

pub key-decided : (a b : Key) → Decides (ghosts.eq a b) (a ≡ b)
key-decided = values-decided the_parts (λ x y. x.0 == y.0, (λ x y. x.0 == y.0, (λ x y. int_eq x.0 y.0, (λ x y. beq x.0 y.0, (λ x y. (x.0 == y.0) && (x.1.0 == y.1.0), (λ x y. x.0 == y.0, (λ x y. domain_ghosts.eq x.0 y.0, (λ x y. true, (λ x y. true, (λ x y. unary_ghosts.eq x.0 y.0 && (x.1.0 == y.1.0), (λ x y. binary_ghosts.eq x.0 y.0 && ((x.1.0 == y.1.0) && (x.1.1.0 == y.1.1.0)), (λ x y. (x.0 == y.0) && (x.1.0 == y.1.0), (λ x y. (x.0 == y.0) && (x.1.0 == y.1.0), (λ x y. (x.0 == y.0) && (x.1.0 == y.1.0), (λ x y. (x.0 == y.0) && ((x.1.0 == y.1.0) && (x.1.1.0 == y.1.1.0)), tt))))))))))))))) (one-number, (one-number, (one-decided int_eq Decides-int_eq, (one-decided beq booleans_Decides, (two-numbers, (one-number, (one-decided domain_ghosts.eq domain-decided, (none-decided, (none-decided, (more-decided unary_ghosts.eq (λ (a b : ℕ × Unit {0}). a.0 == b.0) unary-decided one-number, (more-decided binary_ghosts.eq (λ (a b : ℕ × (ℕ × Unit {0})). (a.0 == b.0) && (a.1.0 == b.1.0)) binary-decided two-numbers, (two-numbers, (two-numbers, (two-numbers, (three-numbers, tt))))))))))))))) as_values the_make the_eta
