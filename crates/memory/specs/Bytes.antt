-- Big-endian fields in a list of bytes.
use Rattle.std.specs.Prelude.{ℕ, ◌+◌, ◌*◌, ◌/◌, ◌%◌, List, set, get_or}

unfoldable pub put_word : List ℕ → ℕ → ℕ → List ℕ
put_word s at v = set (set s at (v / 256)) (at + 1) (v % 256)

unfoldable pub put_long : List ℕ → ℕ → ℕ → List ℕ
put_long s at v = put_word (put_word s at (v / 0x10000)) (at + 2) (v % 0x10000)

unfoldable pub get_word : List ℕ → ℕ → ℕ
get_word s at = get_or s at 0 * 256 + get_or s (at + 1) 0

unfoldable pub get_long : List ℕ → ℕ → ℕ
get_long s at = get_word s at * 0x10000 + get_word s (at + 2)
