-- The words that begin an instruction, and what each asks for.
use Rattle.std.specs.Prelude.{ℕ, pos, negsuc, ◌++◌, List, [], ◌∷◌, map, codes, Option}
use Rattle.jasmin_lines.specs.declared.mnemonic.Access.TheVariants as access
use Rattle.jasmin_lines.specs.declared.mnemonic.Mnemonic.{Mnemonic}
use Rattle.jasmin_lines.specs.declared.mnemonic.Mnemonic.TheVariants as mnemonic
use Rattle.jasmin_lines.specs.Tables.{row_of}

abbrev pub rows : Mnemonic → List (List ℕ) → List (List ℕ × Mnemonic)
rows m words = map (λ word. (word, m)) words

abbrev pub pushes : List (List ℕ × Mnemonic)
pushes =
    (codes "iconst_m1", mnemonic.PushOf (negsuc 0)) ∷
    (codes "iconst_0", mnemonic.PushOf (pos 0)) ∷
    (codes "iconst_1", mnemonic.PushOf (pos 1)) ∷
    (codes "iconst_2", mnemonic.PushOf (pos 2)) ∷
    (codes "iconst_3", mnemonic.PushOf (pos 3)) ∷
    (codes "iconst_4", mnemonic.PushOf (pos 4)) ∷
    (codes "iconst_5", mnemonic.PushOf (pos 5)) ∷
    (codes "bipush", mnemonic.Push (negsuc 127) (pos 127)) ∷
    (codes "sipush", mnemonic.Push (negsuc 32767) (pos 32767)) ∷
    (codes "ldc", mnemonic.Constant) ∷
    []

abbrev pub locals : List (List ℕ × Mnemonic)
locals =
    (codes "iload", mnemonic.Local access.Iload) ∷
    (codes "iload_0", mnemonic.LocalOf access.Iload (pos 0)) ∷
    (codes "iload_1", mnemonic.LocalOf access.Iload (pos 1)) ∷
    (codes "iload_2", mnemonic.LocalOf access.Iload (pos 2)) ∷
    (codes "iload_3", mnemonic.LocalOf access.Iload (pos 3)) ∷
    (codes "istore", mnemonic.Local access.Istore) ∷
    (codes "istore_0", mnemonic.LocalOf access.Istore (pos 0)) ∷
    (codes "istore_1", mnemonic.LocalOf access.Istore (pos 1)) ∷
    (codes "istore_2", mnemonic.LocalOf access.Istore (pos 2)) ∷
    (codes "istore_3", mnemonic.LocalOf access.Istore (pos 3)) ∷
    (codes "aload", mnemonic.Local access.Aload) ∷
    (codes "aload_0", mnemonic.LocalOf access.Aload (pos 0)) ∷
    (codes "aload_1", mnemonic.LocalOf access.Aload (pos 1)) ∷
    (codes "aload_2", mnemonic.LocalOf access.Aload (pos 2)) ∷
    (codes "aload_3", mnemonic.LocalOf access.Aload (pos 3)) ∷
    (codes "astore", mnemonic.Local access.Astore) ∷
    (codes "astore_0", mnemonic.LocalOf access.Astore (pos 0)) ∷
    (codes "astore_1", mnemonic.LocalOf access.Astore (pos 1)) ∷
    (codes "astore_2", mnemonic.LocalOf access.Astore (pos 2)) ∷
    (codes "astore_3", mnemonic.LocalOf access.Astore (pos 3)) ∷
    (codes "iinc", mnemonic.Increment) ∷
    []

-- what takes no operand
abbrev pub alone : List (List ℕ)
alone =
    codes "nop" ∷ codes "aconst_null" ∷ codes "pop" ∷ codes "pop2" ∷ codes "dup" ∷ codes "dup_x1" ∷ codes "dup_x2" ∷ codes "dup2" ∷
    codes "swap" ∷ codes "iadd" ∷ codes "isub" ∷ codes "imul" ∷ codes "ineg" ∷ codes "idiv" ∷ codes "irem" ∷ codes "ishl" ∷
    codes "ishr" ∷ codes "iushr" ∷ codes "iand" ∷ codes "ior" ∷ codes "ixor" ∷ codes "arraylength" ∷ codes "iaload" ∷
    codes "iastore" ∷ codes "monitorenter" ∷ codes "monitorexit" ∷ codes "athrow" ∷ codes "return" ∷ codes "ireturn" ∷
    codes "areturn" ∷ []

-- what takes a label
abbrev pub jumps : List (List ℕ)
jumps =
    codes "ifeq" ∷ codes "ifne" ∷ codes "iflt" ∷ codes "ifge" ∷ codes "ifgt" ∷ codes "ifle" ∷ codes "if_icmpeq" ∷
    codes "if_icmpne" ∷ codes "if_icmplt" ∷ codes "if_icmpge" ∷ codes "if_icmpgt" ∷ codes "if_icmple" ∷ codes "if_acmpeq" ∷
    codes "if_acmpne" ∷ codes "ifnull" ∷ codes "ifnonnull" ∷ codes "goto" ∷ []

-- what the linker refuses, read with the rest of its line
abbrev pub out_of_profile : List (List ℕ)
out_of_profile =
    codes "tableswitch" ∷ codes "lookupswitch" ∷ codes "jsr" ∷ codes "ret" ∷ codes "wide" ∷ codes "goto_w" ∷ codes "jsr_w" ∷
    codes "ldc_w" ∷ codes "ldc2_w" ∷ codes "invokeinterface" ∷ codes "invokedynamic" ∷ codes "checkcast" ∷ codes "instanceof" ∷
    codes "anewarray" ∷ codes "multianewarray" ∷ codes "aaload" ∷ codes "aastore" ∷ codes "baload" ∷ codes "bastore" ∷
    codes "caload" ∷ codes "castore" ∷ codes "saload" ∷ codes "sastore" ∷ codes "i2b" ∷ codes "i2c" ∷ codes "i2s" ∷
    codes "i2l" ∷ codes "i2f" ∷ codes "i2d" ∷ codes "lcmp" ∷ []

unfoldable pub table : List (List ℕ × Mnemonic)
table =
    pushes ++ locals ++ rows mnemonic.Alone alone ++ rows mnemonic.Jump jumps
    ++ rows mnemonic.Field (codes "getstatic" ∷ codes "putstatic" ∷ codes "getfield" ∷ codes "putfield" ∷ [])
    ++ rows mnemonic.Call (codes "invokestatic" ∷ codes "invokevirtual" ∷ codes "invokespecial" ∷ [])
    ++ (codes "new", mnemonic.Class) ∷ (codes "newarray", mnemonic.Array) ∷ rows mnemonic.Outside out_of_profile

-- what a word that begins an instruction asks for
unfoldable pub mnemonic_of : List ℕ → Option Mnemonic
mnemonic_of word = row_of word table
