-- Theorems about what specs/Shown defines, and what rests on them.
use Rattle.std.specs.Prelude.{[]}
use Rattle.manual.specs.Shown.{inputs, input_0, input_1, input_2, input_3, input_4, input_5, input_6, input_7, input_8, input_9, input_10, input_11, input_12, input_13, input_14, input_15, input_16, input_17, input_18, input_19, input_20, input_21, input_22, input_23, input_24, input_25, input_26, input_27, input_28, input_29, input_30, input_31, input_32, input_33, input_34, input_35, input_36, input_37, input_38, input_39, input_40, input_41, input_42, input_43, input_44, input_45, input_46, input_47, input_48, input_49, input_50, input_51, input_52, AllShown}

pub all_shown : AllShown inputs
all_shown = (input_0, (input_1, (input_2, (input_3, (input_4, (input_5, (input_6, (input_7, (input_8, (input_9, (input_10, (input_11, (input_12, (input_13, (input_14, (input_15, (input_16, (input_17, (input_18, (input_19, (input_20, (input_21, (input_22, (input_23, (input_24, (input_25, (input_26, (input_27, (input_28, (input_29, (input_30, (input_31, (input_32, (input_33, (input_34, (input_35, (input_36, (input_37, (input_38, (input_39, (input_40, (input_41, (input_42, (input_43, (input_44, (input_45, (input_46, (input_47, (input_48, (input_49, (input_50, (input_51, (input_52, tt)))))))))))))))))))))))))))))))))))))))))))))))))))))
