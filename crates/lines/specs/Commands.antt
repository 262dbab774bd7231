-- The commands of paper 01, "The session program": a line to a command.
use Rattle.std.specs.Prelude.{ℕ, suc, ◌+◌, Bool, true, false, List, [], ◌∷◌, Option, Some, None, eqb, ltb, length, take, drop}
use Rattle.std.specs.Option.{option_map}
use Rattle.lines.specs.declared.Command.{Command}
use Rattle.lines.specs.declared.Command.TheVariants.{Kind, Pc, Ppc, A7, Long, Exc, Trap, Irq, Walk, Ret}
use Rattle.types.specs.Kinds.{pick}
use Rattle.lines.specs.Numbers.{number_of}

-- the names of the commands in bytes, each with the space before its field
-- `trap `
abbrev pub trap_name : List ℕ
trap_name = 116 ∷ 114 ∷ 97 ∷ 112 ∷ 32 ∷ []

-- `irq `
abbrev pub irq_name : List ℕ
irq_name = 105 ∷ 114 ∷ 113 ∷ 32 ∷ []

-- `walk `
abbrev pub walk_name : List ℕ
walk_name = 119 ∷ 97 ∷ 108 ∷ 107 ∷ 32 ∷ []

-- `long `
abbrev pub long_name : List ℕ
long_name = 108 ∷ 111 ∷ 110 ∷ 103 ∷ 32 ∷ []

-- `exc `
abbrev pub exc_name : List ℕ
exc_name = 101 ∷ 120 ∷ 99 ∷ 32 ∷ []

-- `kind `
abbrev pub kind_name : List ℕ
kind_name = 107 ∷ 105 ∷ 110 ∷ 100 ∷ 32 ∷ []

-- `a7 `
abbrev pub a7_name : List ℕ
a7_name = 97 ∷ 55 ∷ 32 ∷ []

-- `pc `
abbrev pub pc_name : List ℕ
pc_name = 112 ∷ 99 ∷ 32 ∷ []

-- `ppc `
abbrev pub ppc_name : List ℕ
ppc_name = 112 ∷ 112 ∷ 99 ∷ 32 ∷ []

-- `ret`
abbrev pub ret_name : List ℕ
ret_name = 114 ∷ 101 ∷ 116 ∷ []

-- the line begins with the bytes of a name
unfoldable pub starts_with : List ℕ → List ℕ → Bool
starts_with [] l = true
starts_with (a ∷ n) [] = false
starts_with (a ∷ n) (b ∷ l) = pick (eqb b a) (starts_with n l) false

-- the number of bytes before the first space, all of them if there is none
unfoldable pub space_in : List ℕ → ℕ
space_in [] = 0
space_in (b ∷ l) = pick (eqb b 32) 0 (suc (space_in l))

-- "n is decimal, 1 to 4 digits"
abbrev pub decimal : List ℕ → Option ℕ
decimal l = number_of 10 4 l

-- "others bare hexadecimal, 1 to 8 digits, either case"
abbrev pub hexadecimal : List ℕ → Option ℕ
hexadecimal l = number_of 16 8 l

-- "14 also covers `kind` or `irq` above 255, `trap` above FF"; `walk` above 4096 and a `long` not served are refused where they act
unfoldable pub byte_in : Option ℕ → Option ℕ
byte_in (Some n) = pick (ltb n 256) (Some n) None
byte_in None = None

unfoldable pub long_in : Option ℕ → Option ℕ → Option Command
long_in (Some a) (Some v) = Some (Long a v)
long_in (Some a) None = None
long_in None n = None

-- "one space between fields": the address before the first space, the value after it
unfoldable pub long_fields : List ℕ → Option Command
long_fields l = long_in (hexadecimal (take (space_in l) l)) (hexadecimal (drop (space_in l + 1) l))

unfoldable pub ret_in : List ℕ → Option Command
ret_in l = pick (starts_with ret_name l) (pick (eqb (length l) 3) (Some Ret) None) None

-- "`kind n`; `pc h`, `ppc h`, `a7 h`; `long a v`; `exc h`, `trap h`; `irq n`; `walk n`; `ret`", each name with its space
unfoldable pub word_in : List ℕ → Option Command
word_in l =
    pick (starts_with trap_name l) (option_map Trap (byte_in (hexadecimal (drop 5 l))))
    (pick (starts_with irq_name l) (option_map Irq (byte_in (decimal (drop 4 l))))
    (pick (starts_with walk_name l) (option_map Walk (decimal (drop 5 l)))
    (pick (starts_with long_name l) (long_fields (drop 5 l))
    (pick (starts_with exc_name l) (option_map Exc (hexadecimal (drop 4 l)))
    (pick (starts_with kind_name l) (option_map Kind (byte_in (decimal (drop 5 l))))
    (pick (starts_with a7_name l) (option_map A7 (hexadecimal (drop 3 l)))
    (pick (starts_with pc_name l) (option_map Pc (hexadecimal (drop 3 l)))
    (pick (starts_with ppc_name l) (option_map Ppc (hexadecimal (drop 4 l)))
    (ret_in l)))))))))

-- "14 line not understood or over 80 bytes"
unfoldable pub command_of : List ℕ → Option Command
command_of l = pick (ltb 80 (length l)) None (word_in l)
