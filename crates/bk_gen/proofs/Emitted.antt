-- Code whose jumps are set once the places that they lead to are known.
use Rattle.std.proofs.Common.{◌≡◌, ◌+◌, ◌-◌, ℕ, pos, neg_ℤ, List, [], ◌∷◌, ◌++◌, length, sym, ◌∙◌, ap, arith, append_assoc, set}
use Rattle.std.proofs.Math.Seq.{set-append_seam}
use Rattle.std.proofs.lemmas.List.{append-nil, length-append, length-set}
use Rattle.bk_code.specs.declared.instruction.Inst.{Inst}
use Rattle.bk_code.specs.declared.instruction.Inst.TheVariants.{Push, Jump, JumpZero}
use Rattle.bk_gen.specs.Executed.{fork_code}

-- an instruction that stands between others is replaced
pub replaced : (front : List Inst) (old new : Inst) (rest more : List Inst) → set ((front ++ old ∷ []) ++ rest) (length front) new ++ more ≡ front ++ new ∷ (rest ++ more)
replaced front old new rest more =
    ap (λ xs. set xs (length front) new ++ more) (append_assoc front (old ∷ []) rest) ∙
    (ap (λ xs. xs ++ more) (set-append_seam front old rest new) ∙ append_assoc front (new ∷ rest) more)

-- a test, the right side, a Jump, the test set to lead to the Push
pub both_emitted : (before p q c1 c2 c3 c4 c5 c6 : List Inst) (at : ℕ) → c1 ≡ before ++ p → at ≡ length c1 → c2 ≡ c1 ++ JumpZero (pos 0) ∷ [] → c3 ≡ c2 ++ q → c4 ≡ c3 ++ Jump (pos 2) ∷ [] →
    c5 ≡ set c4 at (JumpZero (pos (length c4 - at))) → c6 ≡ c5 ++ Push (pos 0) ∷ [] → c6 ≡ before ++ (p ++ fork_code q (Push (pos 0) ∷ []))
both_emitted before p q c1 c2 c3 c4 c5 c6 at h1 there h2 h3 h4 h5 h6 =
    let test = JumpZero (pos (length q + 2)) in
    let fourth : c4 ≡ (c1 ++ JumpZero (pos 0) ∷ []) ++ (q ++ Jump (pos 2) ∷ []) = h4 ∙ (ap (λ xs. xs ++ Jump (pos 2) ∷ []) (h3 ∙ ap (λ xs. xs ++ q) h2) ∙ append_assoc (c1 ++ JumpZero (pos 0) ∷ []) q (Jump (pos 2) ∷ [])) in
    let long : length c4 - at ≡ length q + 2 = omega (arith, ap length fourth, length-append (c1 ++ JumpZero (pos 0) ∷ []) (q ++ Jump (pos 2) ∷ []), length-append c1 (JumpZero (pos 0) ∷ []), length-append q (Jump (pos 2) ∷ [])) in
    let put : JumpZero (pos (length c4 - at)) ≡ test = ap (λ n. JumpZero (pos n)) long in
    let last : c6 ≡ set ((c1 ++ JumpZero (pos 0) ∷ []) ++ (q ++ Jump (pos 2) ∷ [])) (length c1) test ++ Push (pos 0) ∷ [] = h6 ∙ ap (λ xs. xs ++ Push (pos 0) ∷ []) (h5 ∙ (λ i. set (fourth i) (there i) (put i))) in
    last ∙ (replaced c1 (JumpZero (pos 0)) test (q ++ Jump (pos 2) ∷ []) (Push (pos 0) ∷ []) ∙
    (ap (λ xs. c1 ++ test ∷ xs) (append_assoc q (Jump (pos 2) ∷ []) (Push (pos 0) ∷ [])) ∙
    (ap (λ xs. xs ++ test ∷ (q ++ Jump (pos 2) ∷ Push (pos 0) ∷ [])) h1 ∙ append_assoc before p (test ∷ (q ++ Jump (pos 2) ∷ Push (pos 0) ∷ [])))))

-- a test, a Push, a Jump, the right side, the Jump set to lead behind it
pub either_emitted : (before p q c1 c2 c3 c4 c5 c6 : List Inst) (at : ℕ) → c1 ≡ before ++ p → c2 ≡ c1 ++ JumpZero (pos 3) ∷ [] → c3 ≡ c2 ++ Push (pos 1) ∷ [] → at ≡ length c3 → c4 ≡ c3 ++ Jump (pos 0) ∷ [] → c5 ≡ c4 ++ q →
    c6 ≡ set c5 at (Jump (pos (length c5 - at))) → c6 ≡ before ++ (p ++ fork_code (Push (pos 1) ∷ []) q)
either_emitted before p q c1 c2 c3 c4 c5 c6 at h1 h2 h3 there h4 h5 h6 =
    let jump = Jump (pos (length q + 1)) in
    let fifth : c5 ≡ (c3 ++ Jump (pos 0) ∷ []) ++ q = h5 ∙ ap (λ xs. xs ++ q) h4 in
    let long : length c5 - at ≡ length q + 1 = omega (arith, ap length fifth, length-append (c3 ++ Jump (pos 0) ∷ []) q, length-append c3 (Jump (pos 0) ∷ [])) in
    let put : Jump (pos (length c5 - at)) ≡ jump = ap (λ n. Jump (pos n)) long in
    let last : c6 ≡ set ((c3 ++ Jump (pos 0) ∷ []) ++ q) (length c3) jump ++ [] = h6 ∙ ((λ i. set (fifth i) (there i) (put i)) ∙ sym (append-nil (set ((c3 ++ Jump (pos 0) ∷ []) ++ q) (length c3) jump))) in
    let front : c3 ≡ (before ++ p) ++ JumpZero (pos 3) ∷ Push (pos 1) ∷ [] = h3 ∙ (ap (λ xs. xs ++ Push (pos 1) ∷ []) (h2 ∙ ap (λ xs. xs ++ JumpZero (pos 3) ∷ []) h1) ∙ append_assoc (before ++ p) (JumpZero (pos 3) ∷ []) (Push (pos 1) ∷ [])) in
    last ∙ (replaced c3 (Jump (pos 0)) jump q [] ∙
    (ap (λ xs. c3 ++ jump ∷ xs) (append-nil q) ∙
    (ap (λ xs. xs ++ jump ∷ q) front ∙ (append_assoc (before ++ p) (JumpZero (pos 3) ∷ Push (pos 1) ∷ []) (jump ∷ q) ∙ append_assoc before p (JumpZero (pos 3) ∷ Push (pos 1) ∷ jump ∷ q)))))

-- a test, the first branch, a Jump and the second branch, with the test set before the second branch is added
forked : (before test first second : List Inst) (old_test old_jump : Inst) →
    set (set ((((before ++ test) ++ old_test ∷ []) ++ first) ++ old_jump ∷ []) (length (before ++ test)) (JumpZero (pos (length first + 2))) ++ second) (length (((before ++ test) ++ old_test ∷ []) ++ first)) (Jump (pos (length second + 1)))
    ≡ before ++ (test ++ fork_code first second)
forked before test first second old_test old_jump =
    let front = before ++ test in
    let zero = JumpZero (pos (length first + 2)) in
    let jump = Jump (pos (length second + 1)) in
    let long : length ((front ++ old_test ∷ []) ++ first) ≡ length (front ++ zero ∷ first) = length-append (front ++ old_test ∷ []) first ∙ (omega (arith, length-append front (old_test ∷ []), length-append front (zero ∷ first))) in
    let one : set (((front ++ old_test ∷ []) ++ first) ++ old_jump ∷ []) (length front) zero ++ second ≡ (front ++ zero ∷ first) ++ old_jump ∷ second
    = ap (λ xs. set xs (length front) zero ++ second) (append_assoc (front ++ old_test ∷ []) first (old_jump ∷ [])) ∙ (replaced front old_test zero (first ++ old_jump ∷ []) second ∙ (ap (λ xs. front ++ zero ∷ xs) (append_assoc first (old_jump ∷ []) second) ∙ sym (append_assoc front (zero ∷ first) (old_jump ∷ second)))) in
    let two : set ((front ++ zero ∷ first) ++ old_jump ∷ second) (length (front ++ zero ∷ first)) jump ≡ (front ++ zero ∷ first) ++ jump ∷ second = set-append_seam (front ++ zero ∷ first) old_jump second jump in
    ap (λ xs. set xs (length ((front ++ old_test ∷ []) ++ first)) jump) one ∙
    (ap (λ n. set ((front ++ zero ∷ first) ++ old_jump ∷ second) n jump) long ∙
    (two ∙ (append_assoc front (zero ∷ first) (jump ∷ second) ∙ append_assoc before test (zero ∷ first ++ jump ∷ second))))

pub branches_emitted : (before p first second c1 c2 c3 c4 c5 c6 c7 : List Inst) (start jump : ℕ) → c1 ≡ before ++ p → start ≡ length c1 → c2 ≡ c1 ++ JumpZero (pos 0) ∷ [] → c3 ≡ c2 ++ first → jump ≡ length c3 → c4 ≡ c3 ++ Jump (pos 0) ∷ [] →
    c5 ≡ set c4 start (JumpZero (pos (length c4 - start))) → c6 ≡ c5 ++ second → c7 ≡ set c6 jump (Jump (pos (length c6 - jump))) → c7 ≡ before ++ (p ++ fork_code first second)
branches_emitted before p first second c1 c2 c3 c4 c5 c6 c7 start jump h1 there h2 h3 jumps h4 h5 h6 h7 =
    let third : c3 ≡ ((before ++ p) ++ JumpZero (pos 0) ∷ []) ++ first = h3 ∙ ap (λ xs. xs ++ first) (h2 ∙ ap (λ xs. xs ++ JumpZero (pos 0) ∷ []) h1) in
    let fourth : c4 ≡ (((before ++ p) ++ JumpZero (pos 0) ∷ []) ++ first) ++ Jump (pos 0) ∷ [] = h4 ∙ ap (λ xs. xs ++ Jump (pos 0) ∷ []) third in
    let starts : start ≡ length (before ++ p) = there ∙ ap length h1 in
    let jumped : jump ≡ length (((before ++ p) ++ JumpZero (pos 0) ∷ []) ++ first) = jumps ∙ ap length third in
    let one : length c4 - start ≡ length first + 2 = omega (arith, ap length fourth, length-append (((before ++ p) ++ JumpZero (pos 0) ∷ []) ++ first) (Jump (pos 0) ∷ []), length-append ((before ++ p) ++ JumpZero (pos 0) ∷ []) first, length-append (before ++ p) (JumpZero (pos 0) ∷ [])) in
    let fifth : c5 ≡ set ((((before ++ p) ++ JumpZero (pos 0) ∷ []) ++ first) ++ Jump (pos 0) ∷ []) (length (before ++ p)) (JumpZero (pos (length first + 2))) = h5 ∙ (λ i. set (fourth i) (starts i) (JumpZero (pos (one i)))) in
    let same_length : length c5 ≡ length c4 = ap length h5 ∙ length-set c4 start (JumpZero (pos (length c4 - start))) in
    let two : length c6 - jump ≡ length second + 1 = omega (arith, ap length h6, length-append c5 second, same_length, ap length h4, length-append c3 (Jump (pos 0) ∷ [])) in
    h7 ∙ ((λ i. set ((h6 ∙ ap (λ xs. xs ++ second) fifth) i) (jumped i) (Jump (pos (two i)))) ∙ forked before p first second (JumpZero (pos 0)) (Jump (pos 0)))

-- a test, the body and a jump back to the test, which is then set to lead behind the jump
pub loop_emitted : (before p body c1 c2 c3 c4 c5 : List Inst) (again start : ℕ) → again ≡ length before → c1 ≡ before ++ p → start ≡ length c1 → c2 ≡ c1 ++ JumpZero (pos 0) ∷ [] → c3 ≡ c2 ++ body → c4 ≡ c3 ++ Jump (neg_ℤ (pos (length c3 - again))) ∷ [] →
    c5 ≡ set c4 start (JumpZero (pos (length c4 - start))) → c5 ≡ before ++ (p ++ JumpZero (pos (length body + 2)) ∷ body ++ Jump (neg_ℤ (pos (length p + 1 + length body))) ∷ [])
loop_emitted before p body c1 c2 c3 c4 c5 again start came h1 there h2 h3 h4 h5 =
    let test = JumpZero (pos (length body + 2)) in
    let back = Jump (neg_ℤ (pos (length p + 1 + length body))) in
    let third : c3 ≡ (c1 ++ JumpZero (pos 0) ∷ []) ++ body = h3 ∙ ap (λ xs. xs ++ body) h2 in
    let far : length c3 - again ≡ length p + 1 + length body = omega (arith, came, ap length third, length-append (c1 ++ JumpZero (pos 0) ∷ []) body, length-append c1 (JumpZero (pos 0) ∷ []), ap length h1, length-append before p) in
    let fourth : c4 ≡ (c1 ++ JumpZero (pos 0) ∷ []) ++ (body ++ back ∷ []) = h4 ∙ ((λ i. third i ++ Jump (neg_ℤ (pos (far i))) ∷ []) ∙ append_assoc (c1 ++ JumpZero (pos 0) ∷ []) body (back ∷ [])) in
    let long : length c4 - start ≡ length body + 2 = omega (arith, there, ap length fourth, length-append (c1 ++ JumpZero (pos 0) ∷ []) (body ++ back ∷ []), length-append c1 (JumpZero (pos 0) ∷ []), length-append body (back ∷ [])) in
    let put : JumpZero (pos (length c4 - start)) ≡ test = ap (λ n. JumpZero (pos n)) long in
    let last : c5 ≡ set ((c1 ++ JumpZero (pos 0) ∷ []) ++ (body ++ back ∷ [])) (length c1) test ++ [] = h5 ∙ ((λ i. set (fourth i) (there i) (put i)) ∙ sym (append-nil (set ((c1 ++ JumpZero (pos 0) ∷ []) ++ (body ++ back ∷ [])) (length c1) test))) in
    last ∙ (replaced c1 (JumpZero (pos 0)) test (body ++ back ∷ []) [] ∙
    (ap (λ xs. c1 ++ test ∷ xs) (append-nil (body ++ back ∷ [])) ∙
    (ap (λ xs. xs ++ test ∷ (body ++ back ∷ [])) h1 ∙
    (append_assoc before p (test ∷ (body ++ back ∷ [])) ∙ ap (λ xs. before ++ xs) (sym (append_assoc p (test ∷ body) (back ∷ [])))))))
