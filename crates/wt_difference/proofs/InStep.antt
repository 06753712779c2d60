-- Nodes that are told to be the same one by one have the same tokens.
use Rattle.std.proofs.Common.{◌≡◌, ◌<◌, ◌≤◌, ℕ, ◌+◌, Bool, true, false, List, [], ◌∷◌, ◌++◌, length, drop, get_or, refl, sym, ap, ap₂, ◌∙◌}
use Rattle.std.specs.Prelude.{◌&&◌}
use Rattle.std.specs.Str.{bytes_eq}
use Rattle.std.proofs.lemmas.List.{at_drop_more, drop_all}
use Rattle.wt_tree.specs.Kinds.{showing, writing}
use Rattle.wt_tree.specs.Tiling.{is_group}
use Rattle.wt_tree.specs.View.{view, views, label_of}
use Rattle.wt_tree.specs.declared.node.Node.{Node, out-Node}
use Rattle.wt_checks.specs.Tokens.{is_text}
use Rattle.wt_checks.specs.Unmarked.{is_compared}
use Rattle.wt_difference.specs.Tokens.{Token, characters, opens, closes, tokens, all_tokens, same_label, same_token, same_tokens}
use Rattle.wt_difference.proofs.Gathered.{no_tokens, text_tokens, group_tokens, node_tokens}

and_left : (a b : Bool) → (a && b) ≡ true → a ≡ true
and_left true b e = refl
and_left false b e = absurd (cc)

and_right : (a b : Bool) → (a && b) ≡ true → b ≡ true
and_right true b e = e
and_right false b e = absurd (cc)

both : (a b : Bool) → a ≡ true → b ≡ true → (a && b) ≡ true
both true b e f = f
both false b e f = absurd (cc)

joined : (xs ys vs ws : List Token) → same_tokens xs ys ≡ true → same_tokens vs ws ≡ true → same_tokens (xs ++ vs) (ys ++ ws) ≡ true
joined [] [] vs ws e f = f
joined [] (y ∷ ys) vs ws e f = absurd (cc)
joined (x ∷ xs) [] vs ws e f = absurd (cc)
joined (x ∷ xs) (y ∷ ys) vs ws e f =
    both (same_token x y) (same_tokens (xs ++ vs) (ys ++ ws)) (and_left (same_token x y) (same_tokens xs ys) e)
    (joined xs ys vs ws (and_right (same_token x y) (same_tokens xs ys) e) f)

-- what two nodes with these tokens are
by_tokens : (a b : Node) (ss ts : List Token) → tokens (view a) ≡ ss → tokens (view b) ≡ ts → same_tokens ss ts ≡ true
    → same_tokens (tokens (view a)) (tokens (view b)) ≡ true
by_tokens a b ss ts e f h = ap₂ same_tokens e f ∙ h

-- ---- two nodes

pub neither_compared : (a b : Node) → is_compared (showing (out-Node a).kind) ≡ false → is_compared (showing (out-Node b).kind) ≡ false
    → same_tokens (tokens (view a)) (tokens (view b)) ≡ true
neither_compared a b e f = by_tokens a b [] [] (no_tokens a e) (no_tokens b f) refl

pub both_texts : (a b : Node) → is_compared (showing (out-Node a).kind) ≡ true → is_compared (showing (out-Node b).kind) ≡ true
    → is_text (writing (out-Node a).kind) ≡ true → is_text (writing (out-Node b).kind) ≡ true
    → bytes_eq (out-Node a).source.shown (out-Node b).source.shown ≡ true → same_tokens (tokens (view a)) (tokens (view b)) ≡ true
both_texts a b ca cb ta tb e =
    by_tokens a b (characters (out-Node a).source.shown ∷ []) (characters (out-Node b).source.shown ∷ []) (text_tokens a ca ta) (text_tokens b cb tb)
    (both (bytes_eq (out-Node a).source.shown (out-Node b).source.shown) true e refl)

pub both_groups : (a b : Node) → is_compared (showing (out-Node a).kind) ≡ true → is_compared (showing (out-Node b).kind) ≡ true
    → is_text (writing (out-Node a).kind) ≡ false → is_text (writing (out-Node b).kind) ≡ false
    → is_group (out-Node a).kind ≡ true → is_group (out-Node b).kind ≡ true
    → same_label (label_of (out-Node a)) (label_of (out-Node b)) ≡ true → same_tokens (tokens (view a)) (tokens (view b)) ≡ true
both_groups a b ca cb ta tb ga gb e =
    by_tokens a b (opens (label_of (out-Node a)) ∷ closes ∷ []) (opens (label_of (out-Node b)) ∷ closes ∷ [])
    (group_tokens a ca ta ga) (group_tokens b cb tb gb)
    (both (same_label (label_of (out-Node a)) (label_of (out-Node b))) true e refl)

pub both_elements : (a b : Node) → is_compared (showing (out-Node a).kind) ≡ true → is_compared (showing (out-Node b).kind) ≡ true
    → is_text (writing (out-Node a).kind) ≡ false → is_text (writing (out-Node b).kind) ≡ false
    → is_group (out-Node a).kind ≡ false → is_group (out-Node b).kind ≡ false
    → same_label (label_of (out-Node a)) (label_of (out-Node b)) ≡ true
    → same_tokens (all_tokens (views (out-Node a).children)) (all_tokens (views (out-Node b).children)) ≡ true
    → same_tokens (tokens (view a)) (tokens (view b)) ≡ true
both_elements a b ca cb ta tb ga gb e f =
    let xs : List Token = all_tokens (views (out-Node a).children) in
    let ys : List Token = all_tokens (views (out-Node b).children) in
    by_tokens a b (opens (label_of (out-Node a)) ∷ (xs ++ closes ∷ [])) (opens (label_of (out-Node b)) ∷ (ys ++ closes ∷ []))
    (node_tokens a ca ta ga) (node_tokens b cb tb gb)
    (both (same_label (label_of (out-Node a)) (label_of (out-Node b))) (same_tokens (xs ++ closes ∷ []) (ys ++ closes ∷ [])) e
    (joined xs ys (closes ∷ []) (closes ∷ []) f refl))

-- ---- two lists

-- where those from this place on are the same, all are
abbrev pub IsSameFrom : List Node → List Node → ℕ → Type 0
IsSameFrom old new i = same_tokens (all_tokens (views (drop i old))) (all_tokens (views (drop i new))) ≡ true
    → same_tokens (all_tokens (views old)) (all_tokens (views new)) ≡ true

node_at : (ns : List Node) (i : ℕ) (n : Node) → i < length ns → n ≡ get_or ns i n
    → all_tokens (views (drop i ns)) ≡ tokens (view n) ++ all_tokens (views (drop (i + 1) ns))
node_at ns i n lt is =
    at_drop_more (λ ms. all_tokens (views ms)) ns i n lt ∙ ap (λ (m : Node). tokens (view m) ++ all_tokens (views (drop (i + 1) ns))) (sym is)

pub next_same : (old new : List Node) (i : ℕ) (a b : Node) → i < length old → i < length new → a ≡ get_or old i a → b ≡ get_or new i b
    → same_tokens (tokens (view a)) (tokens (view b)) ≡ true → IsSameFrom old new i → IsSameFrom old new (i + 1)
next_same old new i a b la lb ia ib e h = λ rest.
    h (ap₂ same_tokens (node_at old i a la ia) (node_at new i b lb ib)
    ∙ joined (tokens (view a)) (tokens (view b)) (all_tokens (views (drop (i + 1) old))) (all_tokens (views (drop (i + 1) new))) e rest)

pub all_the_same : (old new : List Node) (i : ℕ) → length old ≤ i → length new ≤ i → IsSameFrom old new i
    → same_tokens (all_tokens (views old)) (all_tokens (views new)) ≡ true
all_the_same old new i la lb h =
    h (ap₂ same_tokens (ap (λ (xs : List Node). all_tokens (views xs)) (drop_all i old la)) (ap (λ (xs : List Node). all_tokens (views xs)) (drop_all i new lb)))
