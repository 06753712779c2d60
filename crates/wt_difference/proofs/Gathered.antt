-- The tokens of nodes, one node after another, and lists of tokens of other lengths.
use Rattle.std.proofs.Common.{◌≡◌, Bool, true, false, List, [], ◌∷◌, ◌++◌, length, refl, sym, ap, ◌∙◌, suc}
use Rattle.std.specs.Prelude.{◌&&◌, if◌then◌else◌}
use Rattle.std.specs.List.{flat_map}
use Rattle.std.proofs.lemmas.List.{length-map}
use Rattle.wt_tree.specs.Kinds.{showing, writing}
use Rattle.wt_tree.specs.Tiling.{is_group}
use Rattle.wt_tree.specs.View.{view, views, label_of}
use Rattle.wt_tree.specs.declared.node.Node.{Node, out-Node}
use Rattle.wt_tree.proofs.Views.{view_out}
use Rattle.wt_checks.specs.Tokens.{is_text}
use Rattle.wt_checks.specs.Unmarked.{is_compared}
use Rattle.wt_checks.proofs.Firsts.{if_true, if_false}
use Rattle.wt_difference.specs.declared.tokens.Token.{Token as Seen}
use Rattle.wt_difference.specs.Tokens.{Token, characters, opens, closes, tokens, all_tokens, same_token, same_tokens}
use Rattle.wt_difference.specs.Views.{token_view, tokens_view}

pub tokens_views : (ns : List Node) → all_tokens (views ns) ≡ flat_map (λ n. tokens (view n)) ns
tokens_views [] = refl
tokens_views (n ∷ ns) = ap (λ ts. tokens (view n) ++ ts) (tokens_views ns)

-- of an element
abbrev pub element_tokens : Node → List Token
element_tokens n = opens (label_of (out-Node n)) ∷ (all_tokens (views (out-Node n).children) ++ closes ∷ [])

pub tokens_out : (n : Node)
    → tokens (view n) ≡ (if is_compared (showing (out-Node n).kind) then
    (if is_text (writing (out-Node n).kind) then characters (out-Node n).source.shown ∷ [] else
    if is_group (out-Node n).kind then opens (label_of (out-Node n)) ∷ closes ∷ [] else element_tokens n) else [])
tokens_out n = rw (view_out n)

pub no_tokens : (n : Node) → is_compared (showing (out-Node n).kind) ≡ false → tokens (view n) ≡ []
no_tokens n c = tokens_out n ∙ if_false (is_compared (showing (out-Node n).kind)) _ _ c

pub text_tokens : (n : Node) → is_compared (showing (out-Node n).kind) ≡ true → is_text (writing (out-Node n).kind) ≡ true
    → tokens (view n) ≡ characters (out-Node n).source.shown ∷ []
text_tokens n c t = tokens_out n ∙ if_true (is_compared (showing (out-Node n).kind)) _ _ c ∙ if_true (is_text (writing (out-Node n).kind)) _ _ t

pub group_tokens : (n : Node) → is_compared (showing (out-Node n).kind) ≡ true → is_text (writing (out-Node n).kind) ≡ false
    → is_group (out-Node n).kind ≡ true → tokens (view n) ≡ opens (label_of (out-Node n)) ∷ closes ∷ []
group_tokens n c t g =
    tokens_out n ∙ if_true (is_compared (showing (out-Node n).kind)) _ _ c ∙ if_false (is_text (writing (out-Node n).kind)) _ _ t
    ∙ if_true (is_group (out-Node n).kind) _ _ g

pub node_tokens : (n : Node) → is_compared (showing (out-Node n).kind) ≡ true → is_text (writing (out-Node n).kind) ≡ false
    → is_group (out-Node n).kind ≡ false → tokens (view n) ≡ element_tokens n
node_tokens n c t g =
    tokens_out n ∙ if_true (is_compared (showing (out-Node n).kind)) _ _ c ∙ if_false (is_text (writing (out-Node n).kind)) _ _ t
    ∙ if_false (is_group (out-Node n).kind) _ _ g

-- ---- lengths

and_no : (a : Bool) → a && false ≡ false
and_no true = refl
and_no false = refl

long_apart : (ss ts : List Token) → (length ss ≡ length ts → ⊥) → same_tokens ss ts ≡ false
long_apart [] [] h = absurd (h refl)
long_apart [] (t ∷ ts) h = refl
long_apart (s ∷ ss) [] h = refl
long_apart (s ∷ ss) (t ∷ ts) h = ap (λ b. same_token s t && b) (long_apart ss ts (λ e. h (ap suc e))) ∙ and_no (same_token s t)

pub tokens_long : (ss ts : List Seen) → (length ss ≡ length ts → ⊥) → false ≡ same_tokens (tokens_view ss) (tokens_view ts)
tokens_long ss ts h = sym (long_apart (tokens_view ss) (tokens_view ts) (λ e. h (sym (length-map ss token_view) ∙ e ∙ length-map ts token_view)))
