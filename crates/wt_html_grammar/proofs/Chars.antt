-- The table of first bytes, and the characters that std encodes.
use Rattle.std.proofs.Common.{◌≡◌, ℕ, ◌+◌, ◌-◌, ◌*◌, ◌/◌, ◌%◌, ◌<◌, ◌≤◌, Bool, true, false, Option, List, [], ◌∷◌, refl, sym, ap, ◌∙◌, subst, nat_lt, arith, inl, inr, ⊎_elim}
use Rattle.std.specs.Prelude.{◌==◌, ◌⊎◌}
use Rattle.std.proofs.lemmas.Bool.{eqb-true, ltb-true, ltb-false}
use Rattle.std.proofs.lemmas.Bool.Decides.{nat_tests}
use lib.Utf8.{scalar, encode, scalar_cases}
use Rattle.wt_html_grammar.specs.Signs.{Follow, follow, between, IsFollow, Follows}
use Rattle.wt_html_grammar.proofs.Steps.{if_true, if_false, if_case, lt_test}

not_lt : (m n : ℕ) → n ≤ m → nat_lt m n ≡ false
not_lt m n h = grind (arith, nat_tests)

scalar_low : (c : ℕ) → c < 55296 → scalar c ≡ true
scalar_low c h = grind (arith, nat_tests)

scalar_high : (c : ℕ) → 57344 ≤ c → c < 1114112 → scalar c ≡ true
scalar_high c h l = grind (arith, nat_tests)

abbrev pub IsChar : List ℕ → Type 0
IsChar bs = (c : ℕ) × (scalar c ≡ true) × (encode c ≡ bs)

encode_two : (c b x : ℕ) → 128 ≤ c → c < 2048 → 192 + c / 64 ≡ b → 128 + c % 64 ≡ x → encode c ≡ b ∷ x ∷ []
unfolding encode
encode_two c b x l h e f =
    if_false (nat_lt c 128) _ _ (not_lt c 128 l) ∙ if_true (nat_lt c 2048) _ _ (lt_test c 2048 h)
    ∙ ap (λ m. m ∷ (128 + c % 64) ∷ []) e ∙ ap (λ m. b ∷ m ∷ []) f

encode_three : (c b x y : ℕ) → 2048 ≤ c → c < 65536 → 224 + c / 4096 ≡ b → 128 + (c / 64) % 64 ≡ x → 128 + c % 64 ≡ y → encode c ≡ b ∷ x ∷ y ∷ []
unfolding encode
encode_three c b x y l h e f g =
    if_false (nat_lt c 128) _ _ (not_lt c 128 (omega arith)) ∙ if_false (nat_lt c 2048) _ _ (not_lt c 2048 l) ∙ if_true (nat_lt c 65536) _ _ (lt_test c 65536 h)
    ∙ ap (λ m. m ∷ (128 + (c / 64) % 64) ∷ (128 + c % 64) ∷ []) e ∙ ap (λ m. b ∷ m ∷ (128 + c % 64) ∷ []) f ∙ ap (λ m. b ∷ x ∷ m ∷ []) g

two : (b x c : ℕ) → 194 ≤ b → b ≤ 223 → 128 ≤ x → x ≤ 191 → c ≡ (b - 192) * 64 + (x - 128) → IsChar (b ∷ x ∷ [])
two b x c l h lx hx e = (c, scalar_low c (omega arith), encode_two c b x (omega arith) (omega arith) (omega arith) (omega arith))

three_low : (b x y c : ℕ) → 224 ≤ b → b ≤ 237 → 128 ≤ x → x ≤ 191 → 128 ≤ y → y ≤ 191
    → c ≡ ((b - 224) * 64 + (x - 128)) * 64 + (y - 128) → 2048 ≤ c → c < 55296 → IsChar (b ∷ x ∷ y ∷ [])
three_low b x y c l h lx hx ly hy e low high =
    (c, scalar_low c high, encode_three c b x y low (omega arith) (omega arith) (omega arith) (omega arith))

three_high : (b x y c : ℕ) → 238 ≤ b → b ≤ 239 → 128 ≤ x → x ≤ 191 → 128 ≤ y → y ≤ 191
    → c ≡ ((b - 224) * 64 + (x - 128)) * 64 + (y - 128) → IsChar (b ∷ x ∷ y ∷ [])
three_high b x y c l h lx hx ly hy e =
    (c, scalar_high c (omega arith) (omega arith), encode_three c b x y (omega arith) (omega arith) (omega arith) (omega arith) (omega arith))

encode_four : (c b x y z : ℕ) → 65536 ≤ c → 240 + c / 262144 ≡ b → 128 + (c / 4096) % 64 ≡ x → 128 + (c / 64) % 64 ≡ y
    → 128 + c % 64 ≡ z → encode c ≡ b ∷ x ∷ y ∷ z ∷ []
unfolding encode
encode_four c b x y z l e f g i =
    if_false (nat_lt c 128) _ _ (not_lt c 128 (omega arith)) ∙ if_false (nat_lt c 2048) _ _ (not_lt c 2048 (omega arith))
    ∙ if_false (nat_lt c 65536) _ _ (not_lt c 65536 l)
    ∙ ap (λ m. m ∷ (128 + (c / 4096) % 64) ∷ (128 + (c / 64) % 64) ∷ (128 + c % 64) ∷ []) e ∙ ap (λ m. b ∷ m ∷ (128 + (c / 64) % 64) ∷ (128 + c % 64) ∷ []) f
    ∙ ap (λ m. b ∷ x ∷ m ∷ (128 + c % 64) ∷ []) g ∙ ap (λ m. b ∷ x ∷ y ∷ m ∷ []) i

four : (b x y z c : ℕ) → 240 ≤ b → b ≤ 244 → 128 ≤ x → x ≤ 191 → 128 ≤ y → y ≤ 191 → 128 ≤ z → z ≤ 191
    → c ≡ (((b - 240) * 64 + (x - 128)) * 64 + (y - 128)) * 64 + (z - 128) → 65536 ≤ c → c < 1114112 → IsChar (b ∷ x ∷ y ∷ z ∷ [])
four b x y z c l h lx hx ly hy lz hz e low high =
    (c, scalar_high c (omega arith) high, encode_four c b x y z low (omega arith) (omega arith) (omega arith) (omega arith))

above : (low high b : ℕ) → between low high b ≡ true → low ≤ b
above low high b e = grind (arith, nat_tests)

below : (low high b : ℕ) → between low high b ≡ true → b ≤ high
below low high b e = grind (arith, nat_tests)

after_one : (b low high : ℕ) (bs : List ℕ) → ((x : ℕ) → low ≤ x → x ≤ high → IsChar (b ∷ x ∷ [])) → IsFollow low high 0 bs → IsChar (b ∷ bs)
after_one b low high [] k h = absurd h
after_one b low high (x ∷ bs) k h =
    let P : List ℕ → Type 0 = λ q. IsChar (b ∷ x ∷ q) in subst P (sym h.1) (k x (above low high x h.0) (below low high x h.0))

after_two : (b low high : ℕ) (bs : List ℕ) → ((x y : ℕ) → low ≤ x → x ≤ high → 128 ≤ y → y ≤ 191 → IsChar (b ∷ x ∷ y ∷ []))
    → IsFollow low high 1 bs → IsChar (b ∷ bs)
after_two b low high [] k h = absurd h
after_two b low high (x ∷ []) k h = absurd h.1
after_two b low high (x ∷ y ∷ bs) k h =
    let P : List ℕ → Type 0 = λ q. IsChar (b ∷ x ∷ y ∷ q) in
    subst P (sym h.1.1) (k x y (above low high x h.0) (below low high x h.0) (above 128 191 y h.1.0) (below 128 191 y h.1.0))

after_three : (b low high : ℕ) (bs : List ℕ) →
    ((x y z : ℕ) → low ≤ x → x ≤ high → 128 ≤ y → y ≤ 191 → 128 ≤ z → z ≤ 191 → IsChar (b ∷ x ∷ y ∷ z ∷ []))
    → IsFollow low high 2 bs → IsChar (b ∷ bs)
after_three b low high [] k h = absurd h
after_three b low high (x ∷ []) k h = absurd h.1
after_three b low high (x ∷ y ∷ []) k h = absurd h.1.1
after_three b low high (x ∷ y ∷ z ∷ bs) k h =
    let P : List ℕ → Type 0 = λ q. IsChar (b ∷ x ∷ y ∷ z ∷ q) in
    subst P (sym h.1.1.1)
    (k x y z (above low high x h.0) (below low high x h.0) (above 128 191 y h.1.0) (below 128 191 y h.1.0) (above 128 191 z h.1.1.0) (below 128 191 z h.1.1.0))

three_any : (b x y : ℕ) → 225 ≤ b → b ≤ 239 → (b == 237) ≡ false → 128 ≤ x → x ≤ 191 → 128 ≤ y → y ≤ 191
    → (nat_lt b 237 ≡ true → IsChar (b ∷ x ∷ y ∷ [])) → IsChar (b ∷ x ∷ y ∷ [])
three_any b x y l h n lx hx ly hy k = by_test (nat_lt b 237) refl
  where
    by_test : (t : Bool) → nat_lt b 237 ≡ t → IsChar (b ∷ x ∷ y ∷ [])
    by_test true e = k e
    by_test false e = three_high b x y _ (higher e) h lx hx ly hy refl
      where
        higher : nat_lt b 237 ≡ false → 238 ≤ b
        higher f = grind (arith, nat_tests)

less_237 : (b : ℕ) → nat_lt b 237 ≡ true → b < 237
less_237 b e = grind (arith, nat_tests)

-- the table's characters are characters
pub of_bytes : (b : ℕ) (bs : List ℕ) → Follows (follow b) bs → IsChar (b ∷ bs)
of_bytes b bs =
    let P : Option Follow → Type 0 = λ o. Follows o bs → IsChar (b ∷ bs) in
    if_case P (between 194 223 b) _ _ (λ e. after_one b 128 191 bs (λ x l h. two b x _ (above 194 223 b e) (below 194 223 b e) l h refl)) (λ _.
    if_case P (b == 224) _ _ (λ e. let q : b ≡ 224 = eqb-true b 224 e in
    after_two b 160 191 bs (λ x y l h ly hy. three_low b x y _ (omega arith) (omega arith) (omega arith) h ly hy refl (omega arith) (omega arith))) (λ _.
    if_case P (b == 237) _ _ (λ e. let q : b ≡ 237 = eqb-true b 237 e in
    after_two b 128 159 bs (λ x y l h ly hy. three_low b x y _ (omega arith) (omega arith) l (omega arith) ly hy refl (omega arith) (omega arith))) (λ n.
    if_case P (between 225 239 b) _ _ (λ e. after_two b 128 191 bs (λ x y l h ly hy.
    three_any b x y (above 225 239 b e) (below 225 239 b e) n l h ly hy (λ t. let q : b < 237 = less_237 b t in let p : 225 ≤ b = above 225 239 b e in
    three_low b x y _ (omega arith) (omega arith) l h ly hy refl (omega arith) (omega arith)))) (λ _.
    if_case P (b == 240) _ _ (λ e. let q : b ≡ 240 = eqb-true b 240 e in
    after_three b 144 191 bs (λ x y z l h ly hy lz hz. four b x y z _ (omega arith) (omega arith) (omega arith) h ly hy lz hz refl
    (omega arith) (omega arith))) (λ _.
    if_case P (between 241 243 b) _ _ (λ e. let q : 241 ≤ b = above 241 243 b e in let p : b ≤ 243 = below 241 243 b e in
    after_three b 128 191 bs (λ x y z l h ly hy lz hz. four b x y z _ (omega arith) (omega arith) l h ly hy lz hz refl (omega arith) (omega arith))) (λ _.
    if_case P (b == 244) _ _ (λ e. let q : b ≡ 244 = eqb-true b 244 e in
    after_three b 128 143 bs (λ x y z l h ly hy lz hz. four b x y z _ (omega arith) (omega arith) l (omega arith) ly hy lz hz refl
    (omega arith) (omega arith))) (λ _.
    (λ h. absurd h))))))))

make_between : (low high b : ℕ) → low ≤ b → b ≤ high → between low high b ≡ true
make_between low high b l h = grind (arith, nat_tests)

-- each character past ASCII is one of the table's
abbrev pub InTable : ℕ → Type 0
InTable c = (b : ℕ) × (bs : List ℕ) × (encode c ≡ b ∷ bs) × Follows (follow b) bs

table_two : (c b x : ℕ) → 128 ≤ c → c < 2048 → 192 + c / 64 ≡ b → 128 + c % 64 ≡ x → Follows (follow b) (x ∷ [])
table_two c b x l h e f =
    let P : Option Follow → Type 0 = λ o. Follows o (x ∷ []) in
    if_case P (between 194 223 b) _ _ (λ _. (make_between 128 191 x (omega arith) (omega arith), refl))
    (λ n. absurd (let t : between 194 223 b ≡ true = make_between 194 223 b (omega arith) (omega arith) in let u : true ≡ false = sym t ∙ n in cc))

table_three : (c b x y : ℕ) → 2048 ≤ c → c < 65536 → (c < 55296) ⊎ (57344 ≤ c) → 224 + c / 4096 ≡ b → 128 + (c / 64) % 64 ≡ x
    → 128 + c % 64 ≡ y → Follows (follow b) (x ∷ y ∷ [])
table_three c b x y l h s e f g =
    let P : Option Follow → Type 0 = λ o. Follows o (x ∷ y ∷ []) in
    let nil : List ℕ = [] in
    let last : (between 128 191 y ≡ true) × (nil ≡ []) = (make_between 128 191 y (omega arith) (omega arith), refl) in
    if_case P (between 194 223 b) _ _ (λ t. absurd (omega (arith, below 194 223 b t))) (λ _.
    if_case P (b == 224) _ _ (λ t. (let q : b ≡ 224 = eqb-true b 224 t in make_between 160 191 x (omega arith) (omega arith), last)) (λ not_224.
    if_case P (b == 237) _ _ (λ t. (
      let q : b ≡ 237 = eqb-true b 237 t in
          make_between 128 159 x (omega arith) (⊎_elim (λ k. omega arith) (λ k. absurd (omega arith)) s),
      last,
    )) (λ _.
    if_case P (between 225 239 b) _ _ (λ t. (make_between 128 191 x (omega arith) (omega arith), last)) (λ n.
    absurd (not_three b (omega arith) (omega arith) not_224 n)))))
  where
    not_three : (b : ℕ) → 224 ≤ b → b ≤ 239 → (b == 224) ≡ false → between 225 239 b ≡ false → ⊥
    not_three b l h m n = grind (arith, nat_tests)

table_four : (c b x y z : ℕ) → 65536 ≤ c → c < 1114112 → 240 + c / 262144 ≡ b → 128 + (c / 4096) % 64 ≡ x → 128 + (c / 64) % 64 ≡ y → 128 + c % 64 ≡ z
    → Follows (follow b) (x ∷ y ∷ z ∷ [])
table_four c b x y z l h e f g i =
    let P : Option Follow → Type 0 = λ o. Follows o (x ∷ y ∷ z ∷ []) in
    let nil : List ℕ = [] in
    let last : (between 128 191 z ≡ true) × (nil ≡ []) = (make_between 128 191 z (omega arith) (omega arith), refl) in
    let mid : between 128 191 y ≡ true = make_between 128 191 y (omega arith) (omega arith) in
    if_case P (between 194 223 b) _ _ (λ t. absurd (omega (arith, below 194 223 b t))) (λ _.
    if_case P (b == 224) _ _ (λ t. absurd (omega (arith, eqb-true b 224 t))) (λ _.
    if_case P (b == 237) _ _ (λ t. absurd (omega (arith, eqb-true b 237 t))) (λ _.
    if_case P (between 225 239 b) _ _ (λ t. absurd (omega (arith, below 225 239 b t))) (λ _.
    if_case P (b == 240) _ _ (λ t. (let q : b ≡ 240 = eqb-true b 240 t in make_between 144 191 x (omega arith) (omega arith), (mid, last))) (λ not_240.
    if_case P (between 241 243 b) _ _ (λ t. (make_between 128 191 x (omega arith) (omega arith), (mid, last))) (λ not_mid.
    if_case P (b == 244) _ _ (λ t. (let q : b ≡ 244 = eqb-true b 244 t in make_between 128 143 x (omega arith) (omega arith), (mid, last))) (λ not_244.
    absurd (not_four b (omega arith) (omega arith) not_240 not_mid not_244))))))))
  where
    not_four : (b : ℕ) → 240 ≤ b → b ≤ 244 → (b == 240) ≡ false → between 241 243 b ≡ false → (b == 244) ≡ false → ⊥
    not_four b l h m n k = grind (arith, nat_tests)

by_size : (c : ℕ) → 128 ≤ c → (c < 55296) ⊎ ((57344 ≤ c) × (c < 1114112)) → (t u : Bool) → nat_lt c 2048 ≡ t → nat_lt c 65536 ≡ u → InTable c
by_size c l s true u e f =
    (192 + c / 64, (128 + c % 64) ∷ [], encode_two c _ _ l (ltb-true c 2048 e) refl refl, table_two c _ _ l (ltb-true c 2048 e) refl refl)
by_size c l s false true e f =
    let big : 2048 ≤ c = ltb-false c 2048 e in (
      224 + c / 4096,
      (128 + (c / 64) % 64) ∷ (128 + c % 64) ∷ [],
      encode_three c _ _ _ big (ltb-true c 65536 f) refl refl refl,
      table_three c _ _ _ big (ltb-true c 65536 f) (⊎_elim (λ k. inl k) (λ k. inr k.0) s) refl refl refl,
    )
by_size c l s false false e f =
    let big : 65536 ≤ c = ltb-false c 65536 f in (
      240 + c / 262144,
      (128 + (c / 4096) % 64) ∷ (128 + (c / 64) % 64) ∷ (128 + c % 64) ∷ [],
      encode_four c _ _ _ _ big refl refl refl refl,
      table_four c _ _ _ _ big (⊎_elim (λ k. absurd (omega arith)) (λ k. k.1) s) refl refl refl refl,
    )

pub of_char : (c : ℕ) → scalar c ≡ true → 128 ≤ c → InTable c
of_char c s l = by_size c l (scalar_cases c s) (nat_lt c 2048) (nat_lt c 65536) refl refl
