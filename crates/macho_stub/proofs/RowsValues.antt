-- Values that are scalars, numbers and flow lists, each with its tree written out and what it says at places that are
-- counted in the value: behind a quote, behind the zeros of a number, and over the lines of a list. That the tree is
-- spelled so, and that what it says is there, is computed; that it is sound is computed by the tests of `RowTests`.
-- A row says of one value what its slices are: plain, in quotes, empty, with zeros in front, with a comma behind the
-- last scalar, and over lines.
use Rattle.std.proofs.Common.{[], ◌∷◌, Some, None, refl, arith}
use Rattle.std.specs.Prelude.{codes}
use Rattle.macho_stub_lines.specs.Bytes.{is_plain_byte, is_mark, has_late_control_after, is_passed, is_blank_or_comment, is_tail, unspaced, indent}
use Rattle.macho_stub_lines.specs.Spelling.{Plain, Single, Double, IsScalarValue, IsNumberValue}
use Rattle.macho_stub_lines.specs.FlowLists.{IsFlowList}
use Rattle.macho_stub_lines.specs.steps.ListTrees.{Spaces, Turn}
use Rattle.macho_stub_lines.proofs.ListDerived.{list_of_tree}
use Rattle.macho_stub_lines.proofs.Bind.{ne_at, other_bytes}
use Rattle.macho_stub.proofs.RowTests.{slice, line, plain, single, double}

-- ---- scalars

-- a plain scalar with a comment behind it
pub plain_scalar : IsScalarValue 10 (codes "a:-b # c") (slice 10 (codes "a:-b"))
unfolding is_tail is_passed is_blank_or_comment unspaced indent is_plain_byte is_mark has_late_control_after
plain_scalar = record {
  scalar = Plain (codes "a:-b");
  tail = codes " # c";
  spelled = refl;
  sound = plain (codes "a:-b") refl refl refl;
  ends = refl;
  is = refl;
}

-- one in single quotes, with marks that mean nothing there
pub single_scalar : IsScalarValue 10 (codes "'a #, \"b\\'  ") (slice 11 (codes "a #, \"b\\"))
unfolding is_tail is_passed is_blank_or_comment unspaced indent
single_scalar = record {
  scalar = Single (codes "a #, \"b\\");
  tail = codes "  ";
  spelled = refl;
  sound = single (codes "a #, \"b\\") refl;
  ends = refl;
  is = refl;
}

-- one in double quotes, and one with nothing in it
pub double_scalar : IsScalarValue 10 (codes "\"it's\"") (slice 11 (codes "it's"))
unfolding is_tail
double_scalar = record {
  scalar = Double (codes "it's");
  tail = [];
  spelled = refl;
  sound = double (codes "it's") refl;
  ends = refl;
  is = refl;
}

pub empty_scalar : IsScalarValue 10 (codes "''") (slice 11 [])
unfolding is_tail
empty_scalar = record { scalar = Single []; tail = []; spelled = refl; sound = tt; ends = refl; is = refl }

-- ---- numbers

-- a number with zeros in front, and zero, of which no digit is left
pub seven : IsNumberValue 10 (codes "007 # b") (slice 12 (codes "7"))
unfolding is_tail is_passed is_blank_or_comment unspaced indent
seven = record {
  zeros = 2;
  tail = codes " # b";
  spelled = refl;
  some = omega arith;
  digits = (refl, tt);
  shortest = ne_at 55 48 refl;
  ends = refl;
  is = refl;
}

pub zero_number : IsNumberValue 10 (codes "0") (slice 11 [])
unfolding is_tail
zero_number = record {
  zeros = 1;
  tail = [];
  spelled = refl;
  some = omega arith;
  digits = tt;
  shortest = tt;
  ends = refl;
  is = refl;
}

-- ---- lists on a line

pub empty_list : IsFlowList 10 (codes "[]") [] []
unfolding is_tail
empty_list = list_of_tree _ _ _ _ (record {
  tree = record { opening = Spaces 0; followed = []; final = None };
  tail = [];
  spelled = refl;
  sound = record { opening = tt; followed = tt; final = tt };
  inside = tt;
  ends = refl;
  is = refl;
})

-- a comma behind the last scalar
pub last_comma : IsFlowList 10 (codes "[ a, ]") [] (slice 12 (codes "a") ∷ [])
unfolding is_tail is_plain_byte is_mark has_late_control_after
last_comma = list_of_tree _ _ _ _ (record {
  tree = record {
    opening = Spaces 1;
    followed = record { scalar = Plain (codes "a"); before = Spaces 0; behind = Spaces 1 } ∷ [];
    final = None;
  };
  tail = [];
  spelled = refl;
  sound = record {
    opening = tt;
    followed = (record { scalar = plain (codes "a") refl refl refl; before = tt; behind = tt }, tt);
    final = tt;
  };
  inside = tt;
  ends = refl;
  is = refl;
})

-- the three forms, with no space between them
pub three_forms : IsFlowList 10 (codes "[a,'b c',\"d\"]") []
    (slice 11 (codes "a") ∷ slice 14 (codes "b c") ∷ slice 20 (codes "d") ∷ [])
unfolding is_tail is_plain_byte is_mark has_late_control_after
three_forms = list_of_tree _ _ _ _ (record {
  tree = record {
    opening = Spaces 0;
    followed =
        record { scalar = Plain (codes "a"); before = Spaces 0; behind = Spaces 0 }
        ∷ record { scalar = Single (codes "b c"); before = Spaces 0; behind = Spaces 0 } ∷ [];
    final = Some (record { scalar = Double (codes "d"); behind = Spaces 0 });
  };
  tail = [];
  spelled = refl;
  sound = record {
    opening = tt;
    followed = (
      record { scalar = plain (codes "a") refl refl refl; before = tt; behind = tt },
      (record { scalar = single (codes "b c") refl; before = tt; behind = tt }, tt),
    );
    final = record { scalar = double (codes "d") refl; behind = tt };
  };
  inside = tt;
  ends = refl;
  is = refl;
})

-- ---- a list over three lines, with comments

pub over_lines : IsFlowList 10 (codes "[ # of a") (line 2 19 (codes "  a") ∷ line 3 23 (codes "] # end") ∷ []) (slice 21 (codes "a") ∷ [])
unfolding is_tail is_passed is_blank_or_comment unspaced indent is_plain_byte is_mark has_late_control_after
over_lines = list_of_tree _ _ _ _ (record {
  tree = record {
    opening = Turn (codes " # of a") 2 19 (Spaces 2);
    followed = [];
    final = Some (record { scalar = Plain (codes "a"); behind = Turn [] 3 23 (Spaces 0) });
  };
  tail = codes " # end";
  spelled = refl;
  sound = record {
    opening = (refl, tt);
    followed = tt;
    final = record { scalar = plain (codes "a") refl refl refl; behind = (refl, tt) };
  };
  inside = (other_bytes _ _ refl, (other_bytes _ _ refl, tt));
  ends = refl;
  is = refl;
})

-- three dots behind a space, which end no document
pub over_dots : IsFlowList 10 (codes "[ a,") (line 2 15 (codes " ...") ∷ line 3 20 (codes "]") ∷ [])
    (slice 12 (codes "a") ∷ slice 16 (codes "...") ∷ [])
unfolding is_tail is_plain_byte is_mark has_late_control_after
over_dots = list_of_tree _ _ _ _ (record {
  tree = record {
    opening = Spaces 1;
    followed = record { scalar = Plain (codes "a"); before = Spaces 0; behind = Turn [] 2 15 (Spaces 1) } ∷ [];
    final = Some (record { scalar = Plain (codes "..."); behind = Turn [] 3 20 (Spaces 0) });
  };
  tail = [];
  spelled = refl;
  sound = record {
    opening = tt;
    followed = (record { scalar = plain (codes "a") refl refl refl; before = tt; behind = (refl, tt) }, tt);
    final = record { scalar = plain (codes "...") refl refl refl; behind = (refl, tt) };
  };
  inside = (other_bytes _ _ refl, (other_bytes _ _ refl, tt));
  ends = refl;
  is = refl;
})
