-- One output more in the text of outputs.
use Rattle.std.proofs.Common.{◌≡◌, ℕ, zero, suc, ◌+◌, ◌<◌, refl, sym, ◌∙◌, ap, arith, List, [], ◌∷◌, ◌++◌, length, length-append, take, get_or, ℤ}
use Rattle.std.specs.Prelude.{codes}
use Rattle.std.proofs.lemmas.List.{append-nil, append_assoc, flat_map_more, take_more, length-take-le}
use Rattle.bk_code.specs.declared.image.Image.{Image}
use Rattle.bk_code.specs.declared.image.Parameter.{Parameter}
use Rattle.bk_calls.specs.Transcript.{value_text, value_texts, given_text}

-- what stands before the output with that index
abbrev pub separator : ℕ → List ℕ
separator zero = codes " = "
separator (suc n) = codes ", "

pub given_more : (texts : List (List ℕ)) (text : List ℕ) → given_text (texts ++ text ∷ []) ≡ given_text texts ++ separator (length texts) ++ text
given_more [] text = ap (λ t. codes " = " ++ t) (append-nil text)
given_more (first ∷ texts) text =
    ap (λ t. codes " = " ++ t) (sym (flat_map_more (λ (y : List ℕ). codes ", " ++ y) first texts text)) ∙ sym (append_assoc (given_text (first ∷ texts)) (codes ", ") text)

length-texts : (image : Image) (outputs : List Parameter) (values : List ℤ) → length values ≡ length outputs → length (value_texts image outputs values) ≡ length outputs
length-texts image [] values h = refl
length-texts image (o ∷ outputs) [] h = absurd (omega arith)
length-texts image (o ∷ outputs) (v ∷ values) h = ap suc (length-texts image outputs values (omega arith))

texts_more : (image : Image) (outputs : List Parameter) (values : List ℤ) (o : Parameter) (v : ℤ) → length values ≡ length outputs →
    value_texts image (outputs ++ o ∷ []) (values ++ v ∷ []) ≡ value_texts image outputs values ++ value_text image o.kind v ∷ []
texts_more image [] [] o v h = refl
texts_more image [] (w ∷ values) o v h = absurd (omega arith)
texts_more image (p ∷ outputs) [] o v h = absurd (omega arith)
texts_more image (p ∷ outputs) (w ∷ values) o v h = ap (λ t. value_text image p.kind w ∷ t) (texts_more image outputs values o v (omega arith))

pub output_more : (image : Image) (outputs : List Parameter) (values : List ℤ) (i : ℕ) (o : Parameter) (v : ℤ) → i < length outputs → length values ≡ length outputs →
    given_text (value_texts image (take (i + 1) outputs) (take (i + 1) values)) ≡
    given_text (value_texts image (take i outputs) (take i values)) ++ separator i ++ value_text image (get_or outputs i o).kind (get_or values i v)
output_more image outputs values i o v below same =
    let within : i < length values = omega arith in
    let many : length (take i outputs) ≡ i = length-take-le i outputs (omega arith) in
    let alike : length (take i values) ≡ length (take i outputs) = length-take-le i values (omega arith) ∙ sym many in
    let texts = value_texts image (take i outputs) (take i values) in
    let text = value_text image (get_or outputs i o).kind (get_or values i v) in
    let more : value_texts image (take (i + 1) outputs) (take (i + 1) values) ≡ texts ++ text ∷ [] =
    ap (λ t. value_texts image t (take (i + 1) values)) (take_more outputs i o below) ∙
    ap (λ t. value_texts image (take i outputs ++ get_or outputs i o ∷ []) t) (take_more values i v within) ∙
    texts_more image (take i outputs) (take i values) (get_or outputs i o) (get_or values i v) alike in
    ap given_text more ∙ given_more texts text ∙ ap (λ n. given_text texts ++ separator n ++ text) (length-texts image (take i outputs) (take i values) alike ∙ many)

pub output_length : (image : Image) (outputs : List Parameter) (values : List ℤ) (i : ℕ) (o : Parameter) (v : ℤ) → i < length outputs → length values ≡ length outputs →
    length (given_text (value_texts image (take (i + 1) outputs) (take (i + 1) values))) ≡
    length (given_text (value_texts image (take i outputs) (take i values))) + length (separator i) + length (value_text image (get_or outputs i o).kind (get_or values i v))
output_length image outputs values i o v below same =
    let texts = given_text (value_texts image (take i outputs) (take i values)) in
    omega (arith, ap length (output_more image outputs values i o v below same), length-append (texts ++ separator i) (value_text image (get_or outputs i o).kind (get_or values i v)), length-append texts (separator i))

pub separator_is : (i : ℕ) (sign : List ℕ) → (i ≡ 0 → sign ≡ codes " = ") → (0 < i → sign ≡ codes ", ") → sign ≡ separator i
separator_is zero sign first other = first refl
separator_is (suc n) sign first other = other (omega arith)

-- the same, from what is written before and after the separator
pub written_more : (image : Image) (outputs : List Parameter) (values : List ℤ) (i : ℕ) (o : Parameter) (v : ℤ) (before line middle after sign : List ℕ) → i < length outputs → length values ≡ length outputs →
    line ≡ before ++ given_text (value_texts image (take i outputs) (take i values)) → (i ≡ 0 → sign ≡ codes " = ") → (0 < i → sign ≡ codes ", ") →
    middle ≡ line ++ sign → after ≡ middle ++ value_text image (get_or outputs i o).kind (get_or values i v) →
    after ≡ before ++ given_text (value_texts image (take (i + 1) outputs) (take (i + 1) values))
written_more image outputs values i o v before line middle after sign below same is first other m a =
    let texts = given_text (value_texts image (take i outputs) (take i values)) in
    let text = value_text image (get_or outputs i o).kind (get_or values i v) in
    let sign_is : sign ≡ separator i = separator_is i sign first other in
    a ∙ ap (λ t. t ++ text) (m ∙ ap (λ t. line ++ t) sign_is ∙ ap (λ t. t ++ separator i) is ∙ append_assoc before texts (separator i)) ∙
    append_assoc before (texts ++ separator i) text ∙ ap (λ t. before ++ t) (sym (output_more image outputs values i o v below same))
