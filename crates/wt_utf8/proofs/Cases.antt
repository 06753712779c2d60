-- How much of a character stands at the front of bytes, computed.
use lib.Utf8.{encode}
use Rattle.std.proofs.Common.{◌≡◌, Some, None, [], ◌∷◌, map, refl}
use Rattle.std.specs.Str.{is_utf8, chars}
use Rattle.std.specs.Str.Lossy.{utf8_valid_len}
use Rattle.wt_utf8.specs.Places.{not_utf8_place}
use Rattle.wt_utf8.specs.Begun.{begun_len}

-- bytes that begin no character: 255, and the first bytes of overlong forms and of what is past the last character
never_first : map begun_len ((255 ∷ []) ∷ (192 ∷ 128 ∷ []) ∷ (193 ∷ 191 ∷ []) ∷ (245 ∷ 128 ∷ []) ∷ (128 ∷ []) ∷ []) ≡ 0 ∷ 0 ∷ 0 ∷ 0 ∷ 0 ∷ []
never_first = refl

-- the end inside a character of two, three and four bytes
cut_short : map begun_len ((195 ∷ []) ∷ (226 ∷ 130 ∷ []) ∷ (240 ∷ 159 ∷ 152 ∷ []) ∷ []) ≡ 1 ∷ 2 ∷ 3 ∷ []
cut_short = refl

-- a surrogate, a number past the last one, overlong forms, and a letter inside a character
broken_off : map begun_len ((237 ∷ 160 ∷ 128 ∷ []) ∷ (244 ∷ 144 ∷ 128 ∷ 128 ∷ []) ∷ (224 ∷ 159 ∷ 128 ∷ [])
    ∷ (240 ∷ 143 ∷ 128 ∷ 128 ∷ []) ∷ (195 ∷ 97 ∷ []) ∷ (226 ∷ 130 ∷ 97 ∷ []) ∷ [])
    ≡ 1 ∷ 1 ∷ 1 ∷ 1 ∷ 1 ∷ 2 ∷ []
broken_off = refl

-- the whole place, of texts that end badly: FF, the end inside a character, a surrogate, a number past the last one, an
-- overlong form, a letter inside a character
places : map not_utf8_place ((97 ∷ 255 ∷ []) ∷ (97 ∷ 195 ∷ []) ∷ (226 ∷ 130 ∷ []) ∷ (237 ∷ 160 ∷ 128 ∷ [])
    ∷ (244 ∷ 144 ∷ 128 ∷ 128 ∷ []) ∷ (192 ∷ 128 ∷ []) ∷ (97 ∷ 195 ∷ 97 ∷ []) ∷ (111 ∷ 107 ∷ 32 ∷ 240 ∷ 159 ∷ 152 ∷ []) ∷ [])
    ≡ Some 1 ∷ Some 2 ∷ Some 2 ∷ Some 1 ∷ Some 1 ∷ Some 0 ∷ Some 2 ∷ Some 6 ∷ []
unfolding not_utf8_place utf8_valid_len is_utf8 chars encode
places = refl

-- texts have none
texts : map not_utf8_place ([] ∷ (97 ∷ 10 ∷ []) ∷ (195 ∷ 169 ∷ 226 ∷ 130 ∷ 172 ∷ 240 ∷ 159 ∷ 152 ∷ 128 ∷ []) ∷ []) ≡ None ∷ None ∷ None ∷ []
unfolding not_utf8_place utf8_valid_len is_utf8 chars encode
texts = refl
