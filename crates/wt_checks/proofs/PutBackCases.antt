-- Worked cases of what is put back and what is compared, each by computing.
use Rattle.std.proofs.Common.{◌≡◌, ◌≢◌, ℕ, true, false, None, [], ◌∷◌, map, refl, ap, arith, codes}
use Rattle.std.specs.Prelude.{filter}
use Rattle.wt_tree.specs.declared.kind.Kind.TheVariants as kind
use Rattle.wt_checks.specs.Gist.{Gist, Gists, ended, along, gist}
use Rattle.wt_checks.specs.Gist as gist_words
use Rattle.wt_tree.specs.Tree.{Tree}
use Rattle.wt_checks.specs.Places.{number, is_kept, page_of}
use Rattle.wt_checks.specs.PutBack.{put_back, places_in_new}
use Rattle.wt_checks.proofs.Cases.{node, marked, words, gap, entity, body, content, children, one_letter, two_lines, extension, group, text_span, bold, shows, read_as}

-- ---- put back

-- marked content is the page's again, and a separator isn't compared
content_back : put_back false (page_of two_lines) (body (marked content kind.Para 1 (bold (codes "x") ∷ []) ∷ node kind.Para 2 (words (codes "b") ∷ []) ∷ []))
    ≡ body (marked content kind.Para 1 (words (codes "a") ∷ []) ∷ node kind.Para 2 (words (codes "b") ∷ []) ∷ [])
content_back = refl

-- new children of a node that is marked `children` are gone, and missing ones are there again
children_back : put_back false (page_of two_lines)
    (marked children kind.Body 0 (node kind.Para 0 (words (codes "x") ∷ []) ∷ node kind.Para 2 (words (codes "c") ∷ []) ∷ []))
    ≡ marked children kind.Body 0 (node kind.Para 1 (words (codes "a") ∷ []) ∷ gap (codes "\n\n") ∷ node kind.Para 2 (words (codes "c") ∷ []) ∷ [])
children_back = refl

-- in a list and in the body at once
abbrev list : Tree
list = body (node kind.Ul 1 (node kind.Li 2 (words (codes "x") ∷ []) ∷ node kind.Li 3 (words (codes "y") ∷ []) ∷ []) ∷ [])

items_back : put_back false (page_of list)
    (marked children kind.Body 0 (node kind.Para 0 [] ∷ marked children kind.Ul 1 (node kind.Li 3 (words (codes "y") ∷ []) ∷ node kind.Li 0 [] ∷ []) ∷ []))
    ≡ marked children kind.Body 0 (marked children kind.Ul 1 (node kind.Li 2 (words (codes "x") ∷ []) ∷ node kind.Li 3 (words (codes "y") ∷ []) ∷ []) ∷ [])
items_back = refl

-- what stands inside a new child is gone with it, so what is kept there is asked for beside this: the page's
-- paragraph 1, changed, is nowhere in the tree that is put back, and it is the one kept node inside a new one
abbrev hidden_change : Tree
hidden_change = marked children kind.Body 0 (node kind.Table 0 (node kind.Para 1 (words (codes "x") ∷ []) ∷ []) ∷ node kind.Para 2 (words (codes "b") ∷ []) ∷ [])

change_gone : gist (put_back false (page_of two_lines) hidden_change) ≡ gist two_lines
change_gone = refl

change_in_new : map number (filter is_kept (places_in_new hidden_change)) ≡ 1 ∷ []
change_in_new = refl

-- the inside of a kept node isn't inside a new one
kept_not_new : places_in_new (body (node kind.Ul 1 (node kind.Li 2 [] ∷ []) ∷ [])) ≡ []
kept_not_new = refl

-- what is outside of marked content stays as it is
text_stays : put_back false (page_of one_letter) (body (node kind.Para 1 (words (codes "b") ∷ []) ∷ [])) ≡ body (node kind.Para 1 (words (codes "b") ∷ []) ∷ [])
text_stays = refl

new_stays : put_back false (page_of one_letter) (body (node kind.Para 1 (words (codes "a") ∷ []) ∷ node kind.Para 0 (words (codes "b") ∷ []) ∷ []))
    ≡ body (node kind.Para 1 (words (codes "a") ∷ []) ∷ node kind.Para 0 (words (codes "b") ∷ []) ∷ [])
new_stays = refl

-- a group holds the page's nodes again
group_back : put_back false (page_of shows) (read_as (text_span (codes "b&") ∷ bold (codes "c") ∷ []))
    ≡ body (node kind.Para 1 (words (codes "a ")
    ∷ group 2 (words (codes "b") ∷ entity 0 (codes "&") ∷ node kind.Comment 0 [] ∷ node kind.Bold 0 (words (codes "c") ∷ []) ∷ [])
    ∷ []) ∷ [])
group_back = refl

-- data that the page's node lacks goes, and data that it has is compared as it stands
data_gone : put_back false (page_of (body (node kind.Para 1 (node kind.Island 2 [] ∷ []) ∷ []))) (body (node kind.Para 1 (extension (codes "b") ∷ []) ∷ []))
    ≡ body (node kind.Para 1 (node kind.Island 2 [] ∷ []) ∷ [])
data_gone = refl

data_stays : put_back true (page_of (body (node kind.Para 1 (extension (codes "a") ∷ []) ∷ []))) (body (node kind.Para 1 (extension (codes "b") ∷ []) ∷ []))
    ≡ body (node kind.Para 1 (extension (codes "b") ∷ []) ∷ [])
data_stays = refl

-- ---- compared

-- the features of a node with neither attributes, data nor a character
abbrev plain_features : Gists → Gist
plain_features gs = gist_words.node (record { number = 1; kind = kind.Para; attrs = []; mw = None; character = [] }) gs

-- texts stay apart, and a mark between them isn't there
texts_apart : gist (node kind.Para 1 (words (codes "a") ∷ node kind.Comment 2 [] ∷ words (codes "b") ∷ []))
    ≡ plain_features (along (gist_words.text (codes "a")) (along (gist_words.text (codes "b")) ended))
texts_apart = refl

-- an entity is a node with a character
entity_kept : gist (node kind.Para 1 (gap (codes "\n") ∷ entity 2 (codes "&") ∷ []))
    ≡ plain_features (along (gist_words.node (record { number = 2; kind = kind.Entity; attrs = []; mw = None; character = codes "&" }) ended) ended)
entity_kept = refl

-- numbers are compared
abbrev number_in : Gist → ℕ
number_in (gist_words.text bs) = 0
number_in (gist_words.node f gs) = f.number

other_number : gist (node kind.Para 2 []) ≢ plain_features ended
other_number e = let n : 2 ≡ 1 = ap number_in e in absurd (omega (arith, n))
