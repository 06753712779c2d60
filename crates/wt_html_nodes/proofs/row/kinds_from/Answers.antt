use Rattle.std.proofs.Common.{◌≡◌, arith}
use Rattle.wt_html_nodes.proofs.FirstLetters.{from_a, from_b, from_c, from_d, from_h, from_i, from_l, from_m, from_o, from_p, from_s, from_t, from_u, from_other}
use Rattle.wt_html_nodes.proofs.row.kinds_from.Goals as goal

pub returns-in-97 : goal.returns-in-97
returns-in-97 c = from_a c.args.letter c.in-97.is

pub returns-in-98 : goal.returns-in-98
returns-in-98 c = from_b c.args.letter c.in-98.is

pub returns-in-99 : goal.returns-in-99
returns-in-99 c = from_c c.args.letter c.in-99.is

pub returns-in-100 : goal.returns-in-100
returns-in-100 c = from_d c.args.letter c.in-100.is

pub returns-in-104 : goal.returns-in-104
returns-in-104 c = from_h c.args.letter c.in-104.is

pub returns-in-105 : goal.returns-in-105
returns-in-105 c = from_i c.args.letter c.in-105.is

pub returns-in-108 : goal.returns-in-108
returns-in-108 c = from_l c.args.letter c.in-108.is

pub returns-in-109 : goal.returns-in-109
returns-in-109 c = from_m c.args.letter c.in-109.is

pub returns-in-111 : goal.returns-in-111
returns-in-111 c = from_o c.args.letter c.in-111.is

pub returns-in-112 : goal.returns-in-112
returns-in-112 c = from_p c.args.letter c.in-112.is

pub returns-in-115 : goal.returns-in-115
returns-in-115 c = from_s c.args.letter c.in-115.is

pub returns-in-116 : goal.returns-in-116
returns-in-116 c = from_t c.args.letter c.in-116.is

pub returns-in-117 : goal.returns-in-117
returns-in-117 c = from_u c.args.letter c.in-117.is

pub returns-in_default : goal.returns-in_default
returns-in_default c = from_other c.args.letter (λ (e : 97 ≡ c.args.letter). omega arith) (λ (e : 98 ≡ c.args.letter). omega arith) (λ (e : 99 ≡ c.args.letter). omega arith) (λ (e : 100 ≡ c.args.letter). omega arith) (λ (e : 104 ≡ c.args.letter). omega arith) (λ (e : 105 ≡ c.args.letter). omega arith) (λ (e : 108 ≡ c.args.letter). omega arith) (λ (e : 109 ≡ c.args.letter). omega arith) (λ (e : 111 ≡ c.args.letter). omega arith) (λ (e : 112 ≡ c.args.letter). omega arith) (λ (e : 115 ≡ c.args.letter). omega arith) (λ (e : 116 ≡ c.args.letter). omega arith) (λ (e : 117 ≡ c.args.letter). omega arith)
