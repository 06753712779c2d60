-- The test of two lists of tokens says whether all that is seen of them is one.
use Rattle.std.proofs.Common.{◌≡◌, ℕ, Bool, List, [], ◌∷◌, refl, ap}
use Rattle.std.specs.Prelude.{◌==◌, ◌&&◌}
use Rattle.std.specs.Bool.{Decides}
use Rattle.std.specs.Str.{bytes_eq}
use Rattle.std.proofs.lemmas.Bool.Decides.{Decides-eqb, Decides-like, Decides-and}
use Rattle.std.proofs.lemmas.Slice.Eq.{bytes_eq-Decides}
use Rattle.wt_tree.specs.Kinds.{writing}
use Rattle.wt_tree.specs.Tree.{Label, Tree, label}
use Rattle.wt_checks.specs.Alike.{same_kind, same_attrs, same_data}
use Rattle.wt_checks.specs.Gist.{Features, features}
use Rattle.wt_checks.specs.Places.{Page}
use Rattle.wt_checks.specs.Unmarked.{own_character}
use Rattle.wt_checks.proofs.Compares.{kinds_decide, attrs_decide, data_decide}
use Rattle.wt_difference.specs.Difference.{numbers, numbers_in, same_inside, same_children}
use Rattle.wt_difference.specs.Insides.{inside, held}
use Rattle.wt_difference.specs.Seen.{letters, element, seen, all_seen}
use Rattle.wt_difference.specs.Tokens.{Token, characters, opens, closes, all_tokens, same_label, same_token, same_tokens}

label_decides : (l m : Label) → Decides (same_label l m) (features l ≡ features m)
label_decides l m =
    let xs : List ℕ = own_character (writing l.kind) l.shown in
    let ys : List ℕ = own_character (writing m.kind) m.shown in
    Decides-like (same_label l m)
    (λ h i. record { number = h.0 i; kind = h.1.0 i; attrs = h.1.1.0 i; mw = h.1.1.1.0 i; character = h.1.1.1.1 i })
    (λ e. (
      ap (λ (x : Features). x.number) e,
      (
        ap (λ (x : Features). x.kind) e,
        (ap (λ (x : Features). x.attrs) e, (ap (λ (x : Features). x.mw) e, ap (λ (x : Features). x.character) e)),
      ),
    ))
    (Decides-and (l.id == m.id) (same_kind l.kind m.kind && (same_attrs l.attrs m.attrs && (same_data l.mw m.mw && bytes_eq xs ys))) (Decides-eqb l.id m.id)
    (Decides-and (same_kind l.kind m.kind) (same_attrs l.attrs m.attrs && (same_data l.mw m.mw && bytes_eq xs ys)) (kinds_decide l.kind m.kind)
    (Decides-and (same_attrs l.attrs m.attrs) (same_data l.mw m.mw && bytes_eq xs ys) (attrs_decide l.attrs m.attrs)
    (Decides-and (same_data l.mw m.mw) (bytes_eq xs ys) (data_decide l.mw m.mw) (bytes_eq-Decides xs ys)))))

token_decides : (s t : Token) → Decides (same_token s t) (seen s ≡ seen t)
token_decides (characters xs) (characters ys) = Decides-like (bytes_eq xs ys) (λ e. ap letters e) (λ e. cc) (bytes_eq-Decides xs ys)
token_decides (characters xs) (opens m) = (λ e. cc, λ e. cc)
token_decides (characters xs) closes = (λ e. cc, λ e. cc)
token_decides (opens l) (characters ys) = (λ e. cc, λ e. cc)
token_decides (opens l) (opens m) = Decides-like (same_label l m) (λ e. ap element e) (λ e. cc) (label_decides l m)
token_decides (opens l) closes = (λ e. cc, λ e. cc)
token_decides closes (characters ys) = (λ e. cc, λ e. cc)
token_decides closes (opens m) = (λ e. cc, λ e. cc)
token_decides closes closes = (λ e. refl, λ e. refl)

cons_decides : {X : Type 0} (r s : Bool) (x y : X) (xs ys : List X) → Decides r (x ≡ y) → Decides s (xs ≡ ys) → Decides (r && s) (x ∷ xs ≡ y ∷ ys)
cons_decides r s x y xs ys d e = Decides-like (r && s) (λ h. cc (h.0, h.1)) (λ q. (cc, cc)) (Decides-and r s d e)

pub tokens_decide : (ss ts : List Token) → Decides (same_tokens ss ts) (all_seen ss ≡ all_seen ts)
tokens_decide [] [] = (λ e. refl, λ e. refl)
tokens_decide [] (t ∷ ts) = (λ e. cc, λ e. cc)
tokens_decide (s ∷ ss) [] = (λ e. cc, λ e. cc)
tokens_decide (s ∷ ss) (t ∷ ts) =
    cons_decides (same_token s t) (same_tokens ss ts) (seen s) (seen t) (all_seen ss) (all_seen ts) (token_decides s t) (tokens_decide ss ts)

pub inside_decides : (t u : Tree) → Decides (same_inside t u) (all_seen (all_tokens (inside t)) ≡ all_seen (all_tokens (inside u)))
inside_decides t u = tokens_decide (all_tokens (inside t)) (all_tokens (inside u))

pub children_decide : (page : Page) (t u : Tree) → Decides (same_children page t u) (numbers (held t) ≡ numbers_in page (label u).id (held u))
children_decide page t u = bytes_eq-Decides (numbers (held t)) (numbers_in page (label u).id (held u))
