-- Reading items one after the other, as a loop does.
use Rattle.std.proofs.Common.{◌≡◌, ℕ, suc, ◌-◌, ◌+◌, ◌≤◌, ◌<◌, List, [], ◌∷◌, ◌++◌, Ok, Err, refl, sym, ap, ◌∙◌, append_assoc, arith}
use Rattle.std.proofs.lemmas.List.{append-nil}
use Rattle.bk_image.specs.declared.fault.LoadFault.{LoadFault}
use Rattle.bk_image.specs.declared.fault.LoadFault.TheVariants as faults
use Rattle.bk_image.specs.Reading.{◌>>=◌, Fails, Read, items_at}

-- what was read before, and what is still read
abbrev pub with_front : {A : Type 0} → List A → Read (List A) → Read (List A)
with_front front read = read >>= λ x. Ok (front ++ x.0, x.1)

regroup : {A : Type 0} (front : List A) (n : A) (read : Read (List A)) → with_front front (read >>= λ x. Ok (n ∷ x.0, x.1)) ≡ with_front (front ++ n ∷ []) read
regroup {A} front n (Ok x) = ap (λ (ns : List A). Ok (ns, x.1)) (simp append_assoc)
regroup front n (Err f) = refl

pub goes_on : {A : Type 0} (item : List ℕ → Read A) (front : List A) (count i : ℕ) (bytes : List ℕ) (n : A) (after : List ℕ) (total : Read (List A)) → i < count → item bytes ≡ Ok (n, after)
    → with_front front (items_at item (count - i) bytes) ≡ total → with_front (front ++ n ∷ []) (items_at item (count - (i + 1)) after) ≡ total
unfolding items_at
goes_on item front count i bytes n after total lt h so_far =
    let k : count - i ≡ suc (count - (i + 1)) = omega arith in
    let one : with_front front (items_at item (count - i) bytes) ≡ with_front (front ++ n ∷ []) (items_at item (count - (i + 1)) after) = rw (k, h) (regroup front n (items_at item (count - (i + 1)) after)) in
    sym one ∙ so_far

-- a fault that reading gives is no want of memory
abbrev pub by_fault : {A B : Type 0} (e : LoadFault) (front : List A) (read : Read B) (others : B × List ℕ → Read (List A)) (total : Read (List A)) → Fails e read → with_front front (read >>= others) ≡ total → Fails e total
by_fault faults.Memory front read others total h so_far = tt
by_fault (faults.Short at) front read others total h so_far = sym so_far ∙ rw h refl
by_fault faults.Magic front read others total h so_far = sym so_far ∙ rw h refl
by_fault (faults.Version n) front read others total h so_far = sym so_far ∙ rw h refl
by_fault (faults.BadInst at) front read others total h so_far = sym so_far ∙ rw h refl
by_fault (faults.BadJump at) front read others total h so_far = sym so_far ∙ rw h refl
by_fault (faults.BadSlot at) front read others total h so_far = sym so_far ∙ rw h refl
by_fault (faults.Stack at) front read others total h so_far = sym so_far ∙ rw h refl
by_fault (faults.Extra at) front read others total h so_far = sym so_far ∙ rw h refl

pub ends : {A : Type 0} (item : List ℕ → Read A) (e : LoadFault) (front : List A) (count i : ℕ) (bytes : List ℕ) (total : Read (List A)) → i < count → Fails e (item bytes)
    → with_front front (items_at item (count - i) bytes) ≡ total → Fails e total
unfolding items_at
ends item e front count i bytes total lt h so_far =
    let k : count - i ≡ suc (count - (i + 1)) = omega arith in
    by_fault e front (item bytes) (λ first. items_at item (count - (i + 1)) first.1 >>= λ others. Ok (first.0 ∷ others.0, others.1)) total h (rw k at so_far)

pub is_done : {A : Type 0} (item : List ℕ → Read A) (front : List A) (count i : ℕ) (bytes : List ℕ) (total : Read (List A)) → count ≤ i → with_front front (items_at item (count - i) bytes) ≡ total → total ≡ Ok (front, bytes)
unfolding items_at
is_done {A} item front count i bytes total le so_far =
    let k : count - i ≡ 0 = omega arith in
    let one : with_front front (items_at item (count - i) bytes) ≡ Ok (front, bytes) = rw k (ap (λ (ns : List A). Ok (ns, bytes)) (append-nil front)) in
    sym so_far ∙ one
