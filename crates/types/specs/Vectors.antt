-- Exception vectors by the Rust's names, those that a definition names. 2 and 3 say `Vector`, since `bus_error` and `address_error` are the faults.
use Rattle.std.specs.Prelude.{ℕ}

abbrev pub bus_error_vector : ℕ
bus_error_vector = 2

abbrev pub address_error_vector : ℕ
address_error_vector = 3

abbrev pub illegal_instruction : ℕ
illegal_instruction = 4

abbrev pub zero_divide : ℕ
zero_divide = 5

abbrev pub chk : ℕ
chk = 6

abbrev pub trapv : ℕ
trapv = 7

abbrev pub privilege_violation : ℕ
privilege_violation = 8

abbrev pub trace : ℕ
trace = 9

abbrev pub line1010 : ℕ
line1010 = 10

abbrev pub line1111 : ℕ
line1111 = 11

abbrev pub spurious_interrupt : ℕ
spurious_interrupt = 24

abbrev pub trap_base : ℕ
trap_base = 32
