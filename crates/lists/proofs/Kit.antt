-- The names of the kit that proofs use, from one place. Assumes nothing.
pub use mathlib.Core.Path.{◌∙◌, ◌≡◌, ap, ap₂, refl, subst, sym}
pub use Prim.Native.Nat.{◌%◌, ◌*◌, ◌+◌, ◌-◌, ◌/◌, ◌<◌, ◌^◌, ◌≤◌, max, min, suc, zero, ℕ}
pub use native.Mathlib.Omega.{arith}
pub use borrow.Author.Rules.{rules}
pub use lib.ListN.{get_or-append as List·get_or-append, get_or-eq_default as List·get_or-eq-default, drop, drop_of_length-le, get_or, get_or-replicate, length, length-append, length-drop, length-map}
pub use lib.ListN.{length-replicate, length-set, length-take, replicate, set, take, take-append-drop}
pub use mathlib.Core.List.{List, [], ◌++◌, ◌∷◌, append_assoc, append-nil, map}
pub use mathlib.Core.Bool.{Bool, cond, false, not, true}
pub use borrow.Author.Tests.{eq-eqb, eqb-false, eqb-true, le-leb, le-ltb, leb-false, leb-true, lt-leb, lt-ltb, ltb-false, ltb-true, ne_eqb, not-false}
pub use borrow.Author.Tests.{not-true}
pub use lib.Dec.{T, eqb, eqb-suc-zero as eqb·suc-zero, leb, lit<, lit≤, ltb}
pub use lib.Seq.{drop-append-add, drop-append-le, drop-append_seam, drop_at, drop-cons, drop-drop, drop-set-lt, ext_get_or, get_or-drop, get_or-set_other}
pub use lib.Seq.{get_or-set_same, get_or-take, length-take-le, set-get_or, set_out, set_split, slice, take-add, take_all, take-append-add, take-append-le}
pub use lib.Seq.{take-append_seam, take_at, take-nil, take-set-le, take-set-lt, take-suc, take-suc-set, take-take}
pub use native.Mathlib.Nat.{add_assoc, add-mul, add-sub_cancel_left, add-suc, add-zero, div-add-mod', div-le_of_le-mul, div-lt_iff_lt-mul, le_antisymm}
pub use native.Mathlib.Nat.{le_of_mul-le-mul_right, le_trans, lt_of_lt_of_le, lt_of_mul-lt-mul_right, mod-le, mod-lt, mul_assoc, mul_comm, mul-div_cancel}
pub use native.Mathlib.Nat.{mul-le-mul, mul-le-mul_left, mul-le-mul_right, mul_left_comm, mul-lt-mul_of_pos_right, mul-mod_left, one-mul, pow-le-pow_right}
pub use native.Mathlib.Nat.{pow-succ', sub-zero, suc-mul, two-pow-succ, zero-add, zero-div, zero-mod, zero-mul}
