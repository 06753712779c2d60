-- Groups among nodes of the page: beside a group something is put, unless the page has the two side by side.
use Rattle.std.proofs.Common.{◌≡◌, ◌⊎◌, inl, inr, Bool, true, false, List, [], ◌∷◌, map, refl, sym, ap, ◌∙◌, subst}
use Rattle.std.specs.Prelude.{◌&&◌, ◌||◌, not, if◌then◌else◌}
use Rattle.wt_span.specs.Items.{Item}
use Rattle.wt_guards.specs.declared.role.Role.{Role}
use Rattle.wt_guards.specs.declared.role.Role.TheVariants.{Link, External, Bare, Switch, Toggle, Mark, Group, Function, Node}
use Rattle.wt_guards.specs.Content.{ContentSign, Thing, letter, thing, nearest, side_of, ends_line, is_function, is_group}
use Rattle.wt_guards.specs.Guards.{Setting, has_brace_last, is_mark, is_always_parted, is_adjacent, left_side, is_parted, is_guarded}
use Rattle.wt_guards.specs.Table.{hazard}
use Rattle.wt_tiles.specs.declared.glyph.Glyph.{Glyph}
use Rattle.wt_tiles.specs.Glyphs.{glyph_of}
use Rattle.wt_beside_laws.specs.Called.{BehindMay, LeadMay, MayMeet, MeetsNearest, AllMeetWith}
use Rattle.wt_beside_laws.specs.Cuts.{ends_word}
use Rattle.wt_beside_laws.specs.Nodes.{IsNode, MayFollow, MayLead}
use Rattle.wt_beside_laws.proofs.PageNodes.{follows_none, MeetBy, meet_apart, unparted}

-- it gives these, or it is a group
abbrev pub IsNodeOrGroup : Thing → List Glyph → Type 0
IsNodeOrGroup t gs = IsNode t.role gs ⊎ (is_group t.role ≡ true)

-- ---- two that aren't side by side in the page

-- what is put between two, by their roles
abbrev IsParted : Role → Role → Bool → Type 0
IsParted r q brace =
    (if is_function q && brace then true else if is_mark r && is_mark q then not (ends_line r) && not false
    else hazard (left_side r) (side_of q) && (is_always_parted r q || not false)) ≡ true

last_true : (u : Bool) → (u || true) ≡ true
last_true true = refl
last_true false = refl

group_left : (r q : Role) (brace : Bool) → is_group r ≡ true → IsParted r q brace
unfolding hazard
group_left Link q brace g = cc
group_left External q brace g = cc
group_left (Bare ends) q brace g = cc
group_left Switch q brace g = cc
group_left Toggle q brace g = cc
group_left (Mark ends began) q brace g = cc
group_left Function q brace g = cc
group_left Node q brace g = cc
group_left (Group h) Link brace g = last_true (is_always_parted (Group h) Link)
group_left (Group h) External brace g = last_true (is_always_parted (Group h) External)
group_left (Group h) (Bare ends) brace g = last_true (is_always_parted (Group h) (Bare ends))
group_left (Group h) Switch brace g = last_true (is_always_parted (Group h) Switch)
group_left (Group h) Toggle brace g = last_true (is_always_parted (Group h) Toggle)
group_left (Group h) (Mark ends began) brace g = last_true (is_always_parted (Group h) (Mark ends began))
group_left (Group h) (Group k) brace g = last_true (is_always_parted (Group h) (Group k))
group_left (Group h) Function true g = refl
group_left (Group h) Function false g = last_true (is_always_parted (Group h) Function)
group_left (Group h) Node brace g = last_true (is_always_parted (Group h) Node)

group_right : (r q : Role) (brace : Bool) → is_group q ≡ true → ends_line r ≡ false → IsParted r q brace
unfolding hazard
group_right r Link brace g e = cc
group_right r External brace g e = cc
group_right r (Bare ends) brace g e = cc
group_right r Switch brace g e = cc
group_right r Toggle brace g e = cc
group_right r (Mark ends began) brace g e = cc
group_right r Function brace g e = cc
group_right r Node brace g e = cc
group_right Link (Group h) brace g e = last_true (is_always_parted Link (Group h))
group_right External (Group h) brace g e = last_true (is_always_parted External (Group h))
group_right (Bare ends) (Group h) brace g e = last_true (is_always_parted (Bare ends) (Group h))
group_right Switch (Group h) brace g e = last_true (is_always_parted Switch (Group h))
group_right Toggle (Group h) brace g e = last_true (is_always_parted Toggle (Group h))
group_right (Mark true began) (Group h) brace g e = cc
group_right (Mark false began) (Group h) brace g e = last_true (is_always_parted (Mark false began) (Group h))
group_right (Group k) (Group h) brace g e = last_true (is_always_parted (Group k) (Group h))
group_right Function (Group h) brace g e = last_true (is_always_parted Function (Group h))
group_right Node (Group h) brace g e = last_true (is_always_parted Node (Group h))

as_parted : (t n : Thing) → is_adjacent t n ≡ false → IsParted t.role n.role (has_brace_last t.source) → is_parted t n ≡ true
unfolding is_parted
as_parted t n e h =
    subst
    (λ (v : Bool). (if is_function n.role && has_brace_last t.source then true else if is_mark t.role && is_mark n.role then not (ends_line t.role) && not v
    else hazard (left_side t.role) (side_of n.role) && (is_always_parted t.role n.role || not v)) ≡ true)
    (sym e) h

-- behind a line of comments a group may be
line_follows : (r : Role) (own other : List Glyph) → ends_line r ≡ true → BehindMay r own other
line_follows Link own other e = cc
line_follows External own other e = cc
line_follows (Bare ends) own other e = cc
line_follows Switch own other e = cc
line_follows Toggle own other e = cc
line_follows (Mark ends began) own other e = follows_none own other (Mark ends began) (λ g. tt)
line_follows (Group h) own other e = cc
line_follows Function own other e = cc
line_follows Node own other e = cc

no_word : (r : Role) (own : List Glyph) → IsNode r own → ends_line r ≡ true → ends_word false own ≡ false
no_word Link own n e = cc
no_word External own n e = cc
no_word (Bare ends) own n e = cc
no_word Switch own n e = cc
no_word Toggle own n e = cc
no_word (Mark ends began) own n e = ap (ends_word false) n
no_word (Group h) own n e = cc
no_word Function own n e = cc
no_word Node own n e = cc

group_led : (r : Role) (own : List Glyph) (word : Bool) → is_group r ≡ true → word ≡ false → LeadMay r own word
group_led Link own word g e = cc
group_led External own word g e = cc
group_led (Bare ends) own word g e = cc
group_led Switch own word g e = cc
group_led Toggle own word g e = cc
group_led (Mark ends began) own word g e = cc
group_led (Group h) own word g e = inl e
group_led Function own word g e = cc
group_led Node own word g e = cc

behind_group : (t n : Thing) (left right : List Glyph) → is_group t.role ≡ true → is_adjacent t n ≡ false → is_parted t n ≡ false → MayMeet t left n right
behind_group t n left right g e z = let no : true ≡ false = sym (as_parted t n e (group_left t.role n.role (has_brace_last t.source) g)) ∙ z in absurd (cc)

before_group : (t n : Thing) (left right : List Glyph) → IsNode t.role left → is_group n.role ≡ true → is_adjacent t n ≡ false → is_parted t n ≡ false
    → MayMeet t left n right
before_group t n left right k g e z = by (ends_line t.role) refl
  where
    by : (v : Bool) → ends_line t.role ≡ v → MayMeet t left n right
    by true i = (line_follows t.role left right i, group_led n.role right (ends_word false left) g (no_word t.role left k i))
    by false i = let no : true ≡ false = sym (as_parted t n e (group_right t.role n.role (has_brace_last t.source) g i)) ∙ z in absurd (cc)

-- two nodes of the page
pub follow_as : (r : Role) (own gs : List Glyph) → IsNode r own → MayFollow r own gs → BehindMay r own gs
follow_as Link own gs n m = m
follow_as External own gs n m = m
follow_as (Bare ends) own gs n m = m
follow_as Switch own gs n m = m
follow_as Toggle own gs n m = m
follow_as (Mark ends began) own gs n m = m
follow_as (Group g) own gs n m = absurd n
follow_as Function own gs n m = m
follow_as Node own gs n m = m

lead_as : (r : Role) (own : List Glyph) (word : Bool) → IsNode r own → MayLead r word → LeadMay r own word
lead_as Link own word n m = m
lead_as External own word n m = m
lead_as (Bare ends) own word n m = m
lead_as Switch own word n m = m
lead_as Toggle own word n m = m
lead_as (Mark ends began) own word n m = m
lead_as (Group g) own word n m = absurd n
lead_as Function own word n m = m
lead_as Node own word n m = m

both_nodes : (t n : Thing) (left right : List Glyph) → IsNode t.role left → IsNode n.role right → is_adjacent t n ≡ false → is_parted t n ≡ false → MayMeet t left n right
both_nodes t n left right h k e z =
    let both : MeetBy t left n right = meet_apart t n left right h k e z in
    (follow_as t.role left right h both.0, lead_as n.role right (ends_word false left) k both.1)

apart_meet : (t n : Thing) (left right : List Glyph) → IsNodeOrGroup t left → IsNodeOrGroup n right → is_adjacent t n ≡ false → is_parted t n ≡ false
    → MayMeet t left n right
apart_meet t n left right (inr g) k e z = behind_group t n left right g e z
apart_meet t n left right (inl h) (inr g) e z = before_group t n left right h g e z
apart_meet t n left right (inl h) (inl k) e z = both_nodes t n left right h k e z

-- two that are always parted are so where they are side by side, too
always_by : (r q : Role) (brace : Bool) → is_always_parted r q ≡ true
    → (if is_function q && brace then true else if is_mark r && is_mark q then not (ends_line r) && not true
    else hazard (left_side r) (side_of q) && (is_always_parted r q || not true)) ≡ true
unfolding hazard
always_by Link q brace e = cc
always_by External Link brace e = cc
always_by External External brace e = cc
always_by External (Bare ends) brace e = cc
always_by External Switch brace e = cc
always_by External Toggle brace e = cc
always_by External (Mark ends began) brace e = cc
always_by External (Group h) brace e = refl
always_by External Function brace e = cc
always_by External Node brace e = cc
always_by (Bare ends) Link brace e = cc
always_by (Bare ends) External brace e = cc
always_by (Bare ends) (Bare more) brace e = cc
always_by (Bare ends) Switch brace e = cc
always_by (Bare ends) Toggle brace e = cc
always_by (Bare ends) (Mark more began) brace e = cc
always_by (Bare ends) (Group h) brace e = refl
always_by (Bare ends) Function brace e = cc
always_by (Bare ends) Node brace e = cc
always_by Switch q brace e = cc
always_by Toggle Link brace e = cc
always_by Toggle External brace e = cc
always_by Toggle (Bare ends) brace e = cc
always_by Toggle Switch brace e = cc
always_by Toggle Toggle brace e = refl
always_by Toggle (Mark ends began) brace e = cc
always_by Toggle (Group h) brace e = ap (λ (v : Bool). v || false) e
always_by Toggle Function brace e = cc
always_by Toggle Node brace e = cc
always_by (Mark ends began) q brace e = cc
always_by (Group g) Link brace e = cc
always_by (Group g) External brace e = refl
always_by (Group g) (Bare ends) brace e = refl
always_by (Group g) Switch brace e = cc
always_by (Group g) Toggle brace e = ap (λ (v : Bool). v || false) e
always_by (Group g) (Mark ends began) brace e = cc
always_by (Group g) (Group h) brace e = ap (λ (v : Bool). v || false) e
always_by (Group g) Function brace e = cc
always_by (Group g) Node brace e = cc
always_by Function q brace e = cc
always_by Node q brace e = cc

always_parted : (t n : Thing) → is_adjacent t n ≡ true → is_always_parted t.role n.role ≡ true → is_parted t n ≡ true
unfolding is_parted
always_parted t n e h =
    subst
    (λ (v : Bool). (if is_function n.role && has_brace_last t.source then true else if is_mark t.role && is_mark n.role then not (ends_line t.role) && not v
    else hazard (left_side t.role) (side_of n.role) && (is_always_parted t.role n.role || not v)) ≡ true)
    (sym e) (always_by t.role n.role (has_brace_last t.source) h)

-- as the page has them side by side, if they aren't always parted
abbrev pub MeetThereAs : Thing → List Glyph → Thing → List Glyph → Type 0
MeetThereAs t left n right = is_adjacent t n ≡ true → is_always_parted t.role n.role ≡ false → MayMeet t left n right

beside_meet : (t n : Thing) (left right : List Glyph) → IsNodeOrGroup t left → IsNodeOrGroup n right → MeetThereAs t left n right → is_parted t n ≡ false
    → MayMeet t left n right
beside_meet t n left right h k page z = by (is_adjacent t n) (is_always_parted t.role n.role) refl refl
  where
    by : (v w : Bool) → is_adjacent t n ≡ v → is_always_parted t.role n.role ≡ w → MayMeet t left n right
    by true false e f = page e f
    by true true e f = let no : true ≡ false = sym (always_parted t n e f) ∙ z in absurd (cc)
    by false w e f = apart_meet t n left right h k e z

-- ---- all of a content

abbrev pub EachIsSuch : List ContentSign → List (List Item) → Type 0
EachIsSuch [] owns = Unit {0}
EachIsSuch (letter c ∷ after) owns = EachIsSuch after owns
EachIsSuch (thing t ∷ after) [] = Unit {0}
EachIsSuch (thing t ∷ after) (own ∷ owns) = IsNodeOrGroup t (map glyph_of own) × EachIsSuch after owns

-- the next node, if the page has it behind this one
abbrev pub NextMeets : Thing → List Glyph → List ContentSign → List (List Item) → Type 0
NextMeets t left [] owns = Unit {0}
NextMeets t left (letter c ∷ after) owns = NextMeets t left after owns
NextMeets t left (thing n ∷ after) [] = Unit {0}
NextMeets t left (thing n ∷ after) (own ∷ owns) = MeetThereAs t left n (map glyph_of own)

abbrev pub EachNextMeets : List ContentSign → List (List Item) → Type 0
EachNextMeets [] owns = Unit {0}
EachNextMeets (letter c ∷ after) owns = EachNextMeets after owns
EachNextMeets (thing t ∷ after) [] = Unit {0}
EachNextMeets (thing t ∷ after) (own ∷ owns) = NextMeets t (map glyph_of own) after owns × EachNextMeets after owns

-- what is nearest before these
abbrev pub ComesBefore : List ContentSign → List Item → List ContentSign → List (List Item) → Type 0
ComesBefore [] last signs owns = Unit {0}
ComesBefore (letter c ∷ before) last signs owns = Unit {0}
ComesBefore (thing t ∷ before) last signs owns = IsNodeOrGroup t (map glyph_of last) × NextMeets t (map glyph_of last) signs owns

thing_meets : (s : Setting) (before : List ContentSign) (last : List Item) (n : Thing) (after : List ContentSign) (own : List Item) (owns : List (List Item))
    → ComesBefore before last (thing n ∷ after) (own ∷ owns) → IsNodeOrGroup n (map glyph_of own) → is_guarded s before (thing n ∷ after) ≡ false
    → MeetsNearest (nearest before) (map glyph_of last) n (map glyph_of own)
thing_meets s [] last n after own owns b k e = tt
thing_meets s (letter d ∷ before) last n after own owns b k e = tt
thing_meets s (thing t ∷ before) last n after own owns b k e =
    beside_meet t n (map glyph_of last) (map glyph_of own) b.0 k b.1 (unparted s t n before after e)

pub all_beside : (s : Setting) (before : List ContentSign) (last : List Item) (signs : List ContentSign) (owns : List (List Item)) → ComesBefore before last signs owns
    → EachIsSuch signs owns → EachNextMeets signs owns → AllMeetWith s before last signs owns
all_beside s before last [] owns b h m = tt
all_beside s before last (letter c ∷ after) owns b h m = all_beside s (letter c ∷ before) [] after owns tt h m
all_beside s before last (thing n ∷ after) [] b h m = tt
all_beside s before last (thing n ∷ after) (own ∷ owns) b h m =
    (λ e. thing_meets s before last n after own owns b h.0 e, all_beside s (thing n ∷ before) own after owns (h.0, m.0) h.1 m.1)
