-- Children one behind another.
use Rattle.std.proofs.Common.{◌≡◌, ◌↔◌, Bool, true, false, List, [], ◌∷◌, ◌++◌, refl, ap, ◌∙◌}
use Rattle.std.specs.Prelude.{◌&&◌, not}
use Rattle.std.specs.List.{AllByRecursion}
use Rattle.wt_tree.specs.Kinds.{is_block, is_inline, may_follow}
use Rattle.wt_tree.specs.declared.kind.Kind.{Kind}
use Rattle.wt_tree.specs.declared.kind.Kind.TheVariants as kind
use Rattle.wt_page_laws.specs.Homes.{follow, AreInTwo}

both : (x y : Bool) → (x && y) ≡ true → (x ≡ true) × (y ≡ true)
both true true e = (refl, refl)
both true false e = cc
both false true e = cc
both false false e = cc

not_inline : (k : Kind) → may_follow true k ≡ true → is_inline k ≡ false
not_inline k e = by (is_inline k) e
  where
    by : (v : Bool) → not (true && v) ≡ true → v ≡ false
    by true e = cc
    by false e = refl

-- a block or a list isn't inline
block_not_inline : (k : Kind) → is_block k ≡ true → is_inline k ≡ false
block_not_inline kind.Body e = cc
block_not_inline k e = cc

-- behind a block nothing is inline
behind_block : (ks : List Kind) → follow true ks ≡ true → AllByRecursion (λ k. is_inline k ≡ false) ks
behind_block [] e = tt
behind_block (k ∷ ks) e = let h = both (may_follow true k) (follow true ks) e in (not_inline k h.0, behind_block ks h.1)

block_behind : (ks : List Kind) → AllByRecursion (λ k. is_inline k ≡ false) ks → follow true ks ≡ true
block_behind [] h = refl
block_behind (k ∷ ks) h = rw (h.0, block_behind ks h.1) refl

-- where nothing is inline, all may follow
none_inline : (b : Bool) (ks : List Kind) → AllByRecursion (λ k. is_inline k ≡ false) ks → follow b ks ≡ true
none_inline true ks h = block_behind ks h
none_inline false [] h = refl
none_inline false (k ∷ ks) h = none_inline (is_block k) ks h.1

in_two : (ks : List Kind) → follow false ks ≡ true → AreInTwo ks
in_two [] e = record { line = []; behind = []; whole = refl; no_block = tt; no_inline = tt }
in_two (k ∷ ks) e = by (is_block k) refl e (in_two ks)
  where
    by : (v : Bool) → is_block k ≡ v → follow v ks ≡ true → (follow false ks ≡ true → AreInTwo ks) → AreInTwo (k ∷ ks)
    by true b f g = record { line = []; behind = k ∷ ks; whole = refl; no_block = tt; no_inline = (block_not_inline k b, behind_block ks f) }
    by false b f g =
        let t = g f in
        record { line = k ∷ t.line; behind = t.behind; whole = ap (λ (l : List Kind). k ∷ l) t.whole; no_block = (b, t.no_block); no_inline = t.no_inline }

follow_two : (line behind : List Kind) → AllByRecursion (λ k. is_block k ≡ false) line → AllByRecursion (λ k. is_inline k ≡ false) behind → follow false (line ++ behind) ≡ true
follow_two [] behind h g = none_inline false behind g
follow_two (k ∷ line) behind h g = rw (h.0) (follow_two line behind h.1 g)

pub in_two_parts : (ks : List Kind) → (follow false ks ≡ true) ↔ (AreInTwo ks)
in_two_parts ks = (in_two ks, λ t. ap (follow false) t.whole ∙ follow_two t.line t.behind t.no_block t.no_inline)
