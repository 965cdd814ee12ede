-- A substitution that stays in what it may does so where more may be named and written, as long as what it binds stays new.
use Rattle.std.proofs.Common.{◌≡◌, inl, inr, ℕ, ◌<◌, List, [], ◌∷◌, ◌++◌, refl, Bool, true, false, not, ◌||◌, arith, nat_eq}
use Rattle.std.proofs.lemmas.Bool.Decides.{nat_tests}
use Rattle.bk_form.specs.Formula.{Formula}
use Rattle.bk_gsl.specs.State.{among, firsts}
use Rattle.bk_gsl.specs.Substitution.{Substitution, skip, assign, pre, guard, choice, if_else, any, seq, par, assert, becomes_such, loop}
use Rattle.bk_dev.specs.Facts.{AllAre, AreNew, Names, AssignsIn, StaysIn, binders, seconds}
use Rattle.bk_statics.proofs.SubStays.{or-cases, or-left, or-right}
use Rattle.bk_statics.proofs.Apart.{in-left, in-right}

-- what passes the first test passes the second
abbrev pub Less : (ℕ → Bool) → (ℕ → Bool) → Type 0
Less v w = (n : ℕ) → v n ≡ true → w n ≡ true

-- what fails the first test below a number fails the second
abbrev pub FailsBelow : ℕ → (ℕ → Bool) → (ℕ → Bool) → Type 0
FailsBelow base v w = (n : ℕ) → n < base → v n ≡ false → w n ≡ false

or-less : (a b c d : Bool) → (a ≡ true → c ≡ true) → (b ≡ true → d ≡ true) → (a || b) ≡ true → (c || d) ≡ true
or-less a b c d f g h = elim (or-cases a b h) [ inl x ↦ or-left c d (f x) | inr x ↦ or-right c d (g x) ]

inside-less : (zs : List ℕ) (v w : ℕ → Bool) → Less v w → Less (λ n. among zs n || v n) (λ n. among zs n || w n)
inside-less zs v w f n h = or-less (among zs n) (v n) (among zs n) (w n) (λ e. e) (f n) h

or-fails : (a b d : Bool) → (b ≡ false → d ≡ false) → (a || b) ≡ false → (a || d) ≡ false
or-fails true b d f h = h
or-fails false b d f h = f h

inside-fails : (base : ℕ) (zs : List ℕ) (v w : ℕ → Bool) → FailsBelow base v w → FailsBelow base (λ n. among zs n || v n) (λ n. among zs n || w n)
inside-fails base zs v w f n l h = or-fails (among zs n) (v n) (w n) (f n l) h

pub names-less : (v w : ℕ → Bool) (f : Formula) → Less v w → Names v f → Names w f
names-less v w f l h = record { closed = h.closed; visible_only = λ n o. l n (h.visible_only n o) }

pub all-less : (v w : ℕ → Bool) (ns : List ℕ) → Less v w → AllAre v ns → AllAre w ns
all-less v w [] l h = tt
all-less v w (n ∷ ns) l h = (l n h.0, all-less v w ns l h.1)

assigns-less : (v w a b : ℕ → Bool) (ps : List (ℕ × Formula)) → Less v w → Less a b → AssignsIn v a ps → AssignsIn w b ps
assigns-less v w a b [] l m h = tt
assigns-less v w a b (p ∷ ps) l m h = (m p.0 h.0, names-less v w p.1 l h.1, h.2, assigns-less v w a b ps l m h.3)

new-wider : (base : ℕ) (v w : ℕ → Bool) (zs : List ℕ) → FailsBelow base v w → ((n : ℕ) → among zs n ≡ true → n < base) → AreNew v zs → AreNew w zs
new-wider base v w [] f b h = tt
new-wider base v w (z ∷ zs) f b h = (f z (b z (or-left (nat_eq z z) (among zs z) (grind (arith, nat_tests)))) h.0, new-wider base v w zs f (λ n e. b n (or-right (nat_eq n z) (among zs n) e)) h.1)

module _ (base : ℕ) (above above2 : ℕ → Bool) (more : Less above above2) where
  loop-less : (v w : ℕ → Bool) → Less v w → Less (λ n. above n || v n) (λ n. above2 n || w n)
  loop-less v w l n h = or-less (above n) (v n) (above2 n) (w n) (more n) (l n) h

  pub stays-wider : (s : Substitution) (v w a b : ℕ → Bool) → Less v w → FailsBelow base v w → Less a b → ((n : ℕ) → among (binders s) n ≡ true → n < base) → StaysIn v above a s → StaysIn w above2 b s
  stays-wider skip v w a b l f m t h = tt
  stays-wider (assign ps) v w a b l f m t h = assigns-less v w a b ps l m h
  stays-wider (pre p s) v w a b l f m t h = (names-less v w p l h.0, stays-wider s v w a b l f m t h.1)
  stays-wider (guard p s) v w a b l f m t h = (names-less v w p l h.0, stays-wider s v w a b l f m t h.1)
  stays-wider (assert p s) v w a b l f m t h = (names-less v w p l h.0, stays-wider s v w a b l f m t h.1)
  stays-wider (choice s u) v w a b l f m t h = (stays-wider s v w a b l f m (λ n e. t n (in-left (binders s) (binders u) n e)) h.0, stays-wider u v w a b l f m (λ n e. t n (in-right (binders s) (binders u) n e)) h.1)
  stays-wider (if_else p s u) v w a b l f m t h = (names-less v w p l h.0, stays-wider s v w a b l f m (λ n e. t n (in-left (binders s) (binders u) n e)) h.1, stays-wider u v w a b l f m (λ n e. t n (in-right (binders s) (binders u) n e)) h.2)
  stays-wider (any zs s) v w a b l f m t h = (
    new-wider base v w zs f (λ n e. t n (in-left zs (binders s) n e)) h.0,
    h.1,
    stays-wider s (λ n. among zs n || v n) (λ n. among zs n || w n) (λ n. among zs n || a n) (λ n. among zs n || b n) (inside-less zs v w l) (inside-fails base zs v w f) (inside-less zs a b m) (λ n e. t n (in-right zs (binders s) n e)) h.2,
  )
  stays-wider (seq s u) v w a b l f m t h = (stays-wider s v w a b l f m (λ n e. t n (in-left (binders s) (binders u) n e)) h.0, stays-wider u v w a b l f m (λ n e. t n (in-right (binders s) (binders u) n e)) h.1)
  stays-wider (par s u) v w a b l f m t h = (stays-wider s v w a b l f m (λ n e. t n (in-left (binders s) (binders u) n e)) h.0, stays-wider u v w a b l f m (λ n e. t n (in-right (binders s) (binders u) n e)) h.1, h.2)
  stays-wider (becomes_such xs p) v w a b l f m t h = (
    all-less a b (firsts xs) m h.0,
    h.1,
    new-wider base v w (seconds xs) f t h.2,
    h.3,
    names-less (λ n. among (seconds xs) n || v n) (λ n. among (seconds xs) n || w n) p (inside-less (seconds xs) v w l) h.4,
  )
  stays-wider (loop p s i c) v w a b l f m t h = (
    names-less v w p l h.0,
    stays-wider s v w a b l f m t h.1,
    names-less (λ n. above n || v n) (λ n. above2 n || w n) i (loop-less v w l) h.2,
    names-less (λ n. above n || v n) (λ n. above2 n || w n) c (loop-less v w l) h.3,
  )
