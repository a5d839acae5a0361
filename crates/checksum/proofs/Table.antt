-- Laws of CRC-32. Steps over bits are linear: eight of them on a state take its low byte apart from the rest, which is only shifted.
-- So the table needs the steps of the 256 bytes alone, and they are compared with it by one computed test.
-- Assumes nothing.
use mathlib.Core.Path.{◌≡◌, refl, sym, ap, ap₂, ◌∙◌}
use mathlib.Core.Bool.{Bool, true, false, ◌&&◌, cond}
use mathlib.Core.List.{List, [], ◌∷◌}
use Prim.Native.Nat.{ℕ, zero, suc, ◌+◌, ◌*◌, ◌/◌, ◌%◌, ◌^◌, ◌≤◌, ◌<◌}
use native.Mathlib.Nat.{add-zero, zero-add, add-suc, suc-add, le_of_suc-le-suc, not-suc-le-zero, pow-suc, mul_assoc}
use native.Mathlib.Numerals.{add-one}
use native.Mathlib.Omega.{arith}
use lib.Arith.{bin_ind}
use lib.Bits.{bit_xor, differ, xor_step, xor_shr, xor_shifted}
use lib.Dec.{eqb}
use lib.ListN.{length, drop, get_or, drop_of_length-le}
use lib.Seq.{drop-cons}
use borrow.Author.Tests.{eqb-true}
use Rattle.checksum.specs.Checksum.{polynomial, crc_bit, crc_bits, crc_of, Tabled}

-- ---- a loop over bytes
pub crc_step : (s : ℕ) (xs : List ℕ) (i : ℕ) → i < length xs → crc_of s (drop i xs) ≡ crc_of (crc_bits 8 (bit_xor s (get_or xs i 0))) (drop (i + 1) xs)
unfolding crc_of
crc_step s xs i h = rw (add-one, drop-cons xs i 0 h) refl

pub crc_end : (s : ℕ) (xs : List ℕ) (i : ℕ) → length xs ≤ i → crc_of s (drop i xs) ≡ s
unfolding crc_of
crc_end s xs i h = rw (drop_of_length-le xs h) refl

-- ---- XOR is associative, digit by digit
data Bit : ℕ → Type 0 where
  off : Bit 0
  on : Bit 1

bit : (n : ℕ) → n < 2 → Bit n
bit zero h = off
bit (suc zero) h = on
bit (suc (suc n)) h = absurd (omega arith)

differ_assoc : {x y z : ℕ} → Bit x → Bit y → Bit z → differ (differ x y) z ≡ differ x (differ y z)
differ_assoc off y z = refl
differ_assoc on off z = refl
differ_assoc on on off = refl
differ_assoc on on on = refl

odd : (n : ℕ) → Bit (n % 2)
odd n = bit (n % 2) (omega arith)

xor_half : (a b : ℕ) → bit_xor a b / 2 ≡ bit_xor (a / 2) (b / 2)
xor_half a b = xor_shr a b 1

xor_odd : (a b : ℕ) → bit_xor a b % 2 ≡ differ (a % 2) (b % 2)
xor_odd a b = omega (arith, xor_step a b, xor_half a b)

xor_assoc : (a b c : ℕ) → bit_xor (bit_xor a b) c ≡ bit_xor a (bit_xor b c)
xor_assoc a =
    bin_ind (λ (n : ℕ). (b c : ℕ) → bit_xor (bit_xor n b) c ≡ bit_xor n (bit_xor b c)) (λ b c. refl)
    (λ n ih b c. xor_step (bit_xor n b) c
    ∙ ap₂ (λ (x y : ℕ). bit_xor x (c / 2) * 2 + differ y (c % 2)) (xor_half n b) (xor_odd n b)
    ∙ ap₂ (λ (x y : ℕ). x * 2 + y) (ih (b / 2) (c / 2)) (differ_assoc (odd n) (odd b) (odd c))
    ∙ sym (ap₂ (λ (x y : ℕ). bit_xor (n / 2) x * 2 + differ (n % 2) y) (xor_half b c) (xor_odd b c))
    ∙ sym (xor_step n (bit_xor b c))) a

-- ---- a state that is shifted high goes apart from the low bits
bit_apart : (a l : ℕ) → crc_bit (bit_xor (a * 2) l) ≡ bit_xor a (crc_bit l)
unfolding crc_bit
bit_apart a l =
    ap₂ (λ (x y : ℕ). cond (eqb x 0) y (bit_xor y polynomial)) low high ∙ go (l % 2) (odd l)
  where
    e : a * 2 / 2 ≡ a
    e = omega arith

    f : a * 2 % 2 ≡ 0
    f = omega arith

    low : bit_xor (a * 2) l % 2 ≡ l % 2
    low = xor_odd (a * 2) l ∙ ap (λ (x : ℕ). differ x (l % 2)) f

    high : bit_xor (a * 2) l / 2 ≡ bit_xor a (l / 2)
    high = xor_half (a * 2) l ∙ ap (λ (x : ℕ). bit_xor x (l / 2)) e

    go : (d : ℕ) → Bit d → cond (eqb d 0) (bit_xor a (l / 2)) (bit_xor (bit_xor a (l / 2)) polynomial) ≡ bit_xor a (cond (eqb d 0) (l / 2) (bit_xor (l / 2) polynomial))
    go zero off = refl
    go (suc zero) on = xor_assoc a (l / 2) polynomial
    go (suc (suc _)) x4 = elim x4 [ ]

bits_apart : (n a l : ℕ) → crc_bits n (bit_xor (a * 2 ^ n) l) ≡ bit_xor a (crc_bits n l)
unfolding crc_bits
bits_apart zero a l = ap (λ (x : ℕ). bit_xor x l) one
  where
    one : a * 1 ≡ a
    one = omega arith
bits_apart (suc n) a l =
    ap (λ (x : ℕ). crc_bits n (crc_bit (bit_xor x l))) (ap (λ (x : ℕ). a * x) (pow-suc 2 n) ∙ sym (mul_assoc a (2 ^ n) 2))
    ∙ ap (crc_bits n) (bit_apart (a * 2 ^ n) l)
    ∙ bits_apart n a (crc_bit l)

pub byte_split : (s : ℕ) → crc_bits 8 s ≡ bit_xor (s / 256) (crc_bits 8 (s % 256))
byte_split s =
    let e : s ≡ s / 256 * 256 + s % 256 = omega arith in
    let h : s % 256 < 256 = omega arith in
    ap (crc_bits 8) (e ∙ sym (xor_shifted (s / 256) 8 (s % 256) h)) ∙ bits_apart 8 (s / 256) (s % 256)

-- ---- the table's rule, by one test
and_left : (t u : Bool) → (t && u) ≡ true → t ≡ true
and_left true u e = refl
and_left false u e = e

and_right : (t u : Bool) → (t && u) ≡ true → u ≡ true
and_right true u e = e
and_right false u e = cc

-- each entry is what eight bits make of its place, counted from i
right : ℕ → List ℕ → Bool
right i [] = true
right i (x ∷ xs) = eqb x (crc_bits 8 i) && right (suc i) xs

right_at : (xs : List ℕ) (i : ℕ) → right i xs ≡ true → (k : ℕ) → k < length xs → get_or xs k 0 ≡ crc_bits 8 (i + k)
unfolding right
right_at [] i t k h = absurd (not-suc-le-zero h)
right_at (x ∷ xs) i t zero h =
    eqb-true x (crc_bits 8 i) (and_left (eqb x (crc_bits 8 i)) (right (suc i) xs) t) ∙ ap (crc_bits 8) (sym (add-zero i))
right_at (x ∷ xs) i t (suc k) h =
    right_at xs (suc i) (and_right (eqb x (crc_bits 8 i)) (right (suc i) xs) t) k (le_of_suc-le-suc h)
    ∙ ap (crc_bits 8) (suc-add i k ∙ sym (add-suc i k))

unfoldable pub table : List ℕ
table =
    0x0000_0000 ∷ 0x7707_3096 ∷ 0xEE0E_612C ∷ 0x9909_51BA ∷ 0x076D_C419 ∷ 0x706A_F48F ∷ 0xE963_A535 ∷ 0x9E64_95A3 ∷
    0x0EDB_8832 ∷ 0x79DC_B8A4 ∷ 0xE0D5_E91E ∷ 0x97D2_D988 ∷ 0x09B6_4C2B ∷ 0x7EB1_7CBD ∷ 0xE7B8_2D07 ∷ 0x90BF_1D91 ∷
    0x1DB7_1064 ∷ 0x6AB0_20F2 ∷ 0xF3B9_7148 ∷ 0x84BE_41DE ∷ 0x1ADA_D47D ∷ 0x6DDD_E4EB ∷ 0xF4D4_B551 ∷ 0x83D3_85C7 ∷
    0x136C_9856 ∷ 0x646B_A8C0 ∷ 0xFD62_F97A ∷ 0x8A65_C9EC ∷ 0x1401_5C4F ∷ 0x6306_6CD9 ∷ 0xFA0F_3D63 ∷ 0x8D08_0DF5 ∷
    0x3B6E_20C8 ∷ 0x4C69_105E ∷ 0xD560_41E4 ∷ 0xA267_7172 ∷ 0x3C03_E4D1 ∷ 0x4B04_D447 ∷ 0xD20D_85FD ∷ 0xA50A_B56B ∷
    0x35B5_A8FA ∷ 0x42B2_986C ∷ 0xDBBB_C9D6 ∷ 0xACBC_F940 ∷ 0x32D8_6CE3 ∷ 0x45DF_5C75 ∷ 0xDCD6_0DCF ∷ 0xABD1_3D59 ∷
    0x26D9_30AC ∷ 0x51DE_003A ∷ 0xC8D7_5180 ∷ 0xBFD0_6116 ∷ 0x21B4_F4B5 ∷ 0x56B3_C423 ∷ 0xCFBA_9599 ∷ 0xB8BD_A50F ∷
    0x2802_B89E ∷ 0x5F05_8808 ∷ 0xC60C_D9B2 ∷ 0xB10B_E924 ∷ 0x2F6F_7C87 ∷ 0x5868_4C11 ∷ 0xC161_1DAB ∷ 0xB666_2D3D ∷
    0x76DC_4190 ∷ 0x01DB_7106 ∷ 0x98D2_20BC ∷ 0xEFD5_102A ∷ 0x71B1_8589 ∷ 0x06B6_B51F ∷ 0x9FBF_E4A5 ∷ 0xE8B8_D433 ∷
    0x7807_C9A2 ∷ 0x0F00_F934 ∷ 0x9609_A88E ∷ 0xE10E_9818 ∷ 0x7F6A_0DBB ∷ 0x086D_3D2D ∷ 0x9164_6C97 ∷ 0xE663_5C01 ∷
    0x6B6B_51F4 ∷ 0x1C6C_6162 ∷ 0x8565_30D8 ∷ 0xF262_004E ∷ 0x6C06_95ED ∷ 0x1B01_A57B ∷ 0x8208_F4C1 ∷ 0xF50F_C457 ∷
    0x65B0_D9C6 ∷ 0x12B7_E950 ∷ 0x8BBE_B8EA ∷ 0xFCB9_887C ∷ 0x62DD_1DDF ∷ 0x15DA_2D49 ∷ 0x8CD3_7CF3 ∷ 0xFBD4_4C65 ∷
    0x4DB2_6158 ∷ 0x3AB5_51CE ∷ 0xA3BC_0074 ∷ 0xD4BB_30E2 ∷ 0x4ADF_A541 ∷ 0x3DD8_95D7 ∷ 0xA4D1_C46D ∷ 0xD3D6_F4FB ∷
    0x4369_E96A ∷ 0x346E_D9FC ∷ 0xAD67_8846 ∷ 0xDA60_B8D0 ∷ 0x4404_2D73 ∷ 0x3303_1DE5 ∷ 0xAA0A_4C5F ∷ 0xDD0D_7CC9 ∷
    0x5005_713C ∷ 0x2702_41AA ∷ 0xBE0B_1010 ∷ 0xC90C_2086 ∷ 0x5768_B525 ∷ 0x206F_85B3 ∷ 0xB966_D409 ∷ 0xCE61_E49F ∷
    0x5EDE_F90E ∷ 0x29D9_C998 ∷ 0xB0D0_9822 ∷ 0xC7D7_A8B4 ∷ 0x59B3_3D17 ∷ 0x2EB4_0D81 ∷ 0xB7BD_5C3B ∷ 0xC0BA_6CAD ∷
    0xEDB8_8320 ∷ 0x9ABF_B3B6 ∷ 0x03B6_E20C ∷ 0x74B1_D29A ∷ 0xEAD5_4739 ∷ 0x9DD2_77AF ∷ 0x04DB_2615 ∷ 0x73DC_1683 ∷
    0xE363_0B12 ∷ 0x9464_3B84 ∷ 0x0D6D_6A3E ∷ 0x7A6A_5AA8 ∷ 0xE40E_CF0B ∷ 0x9309_FF9D ∷ 0x0A00_AE27 ∷ 0x7D07_9EB1 ∷
    0xF00F_9344 ∷ 0x8708_A3D2 ∷ 0x1E01_F268 ∷ 0x6906_C2FE ∷ 0xF762_575D ∷ 0x8065_67CB ∷ 0x196C_3671 ∷ 0x6E6B_06E7 ∷
    0xFED4_1B76 ∷ 0x89D3_2BE0 ∷ 0x10DA_7A5A ∷ 0x67DD_4ACC ∷ 0xF9B9_DF6F ∷ 0x8EBE_EFF9 ∷ 0x17B7_BE43 ∷ 0x60B0_8ED5 ∷
    0xD6D6_A3E8 ∷ 0xA1D1_937E ∷ 0x38D8_C2C4 ∷ 0x4FDF_F252 ∷ 0xD1BB_67F1 ∷ 0xA6BC_5767 ∷ 0x3FB5_06DD ∷ 0x48B2_364B ∷
    0xD80D_2BDA ∷ 0xAF0A_1B4C ∷ 0x3603_4AF6 ∷ 0x4104_7A60 ∷ 0xDF60_EFC3 ∷ 0xA867_DF55 ∷ 0x316E_8EEF ∷ 0x4669_BE79 ∷
    0xCB61_B38C ∷ 0xBC66_831A ∷ 0x256F_D2A0 ∷ 0x5268_E236 ∷ 0xCC0C_7795 ∷ 0xBB0B_4703 ∷ 0x2202_16B9 ∷ 0x5505_262F ∷
    0xC5BA_3BBE ∷ 0xB2BD_0B28 ∷ 0x2BB4_5A92 ∷ 0x5CB3_6A04 ∷ 0xC2D7_FFA7 ∷ 0xB5D0_CF31 ∷ 0x2CD9_9E8B ∷ 0x5BDE_AE1D ∷
    0x9B64_C2B0 ∷ 0xEC63_F226 ∷ 0x756A_A39C ∷ 0x026D_930A ∷ 0x9C09_06A9 ∷ 0xEB0E_363F ∷ 0x7207_6785 ∷ 0x0500_5713 ∷
    0x95BF_4A82 ∷ 0xE2B8_7A14 ∷ 0x7BB1_2BAE ∷ 0x0CB6_1B38 ∷ 0x92D2_8E9B ∷ 0xE5D5_BE0D ∷ 0x7CDC_EFB7 ∷ 0x0BDB_DF21 ∷
    0x86D3_D2D4 ∷ 0xF1D4_E242 ∷ 0x68DD_B3F8 ∷ 0x1FDA_836E ∷ 0x81BE_16CD ∷ 0xF6B9_265B ∷ 0x6FB0_77E1 ∷ 0x18B7_4777 ∷
    0x8808_5AE6 ∷ 0xFF0F_6A70 ∷ 0x6606_3BCA ∷ 0x1101_0B5C ∷ 0x8F65_9EFF ∷ 0xF862_AE69 ∷ 0x616B_FFD3 ∷ 0x166C_CF45 ∷
    0xA00A_E278 ∷ 0xD70D_D2EE ∷ 0x4E04_8354 ∷ 0x3903_B3C2 ∷ 0xA767_2661 ∷ 0xD060_16F7 ∷ 0x4969_474D ∷ 0x3E6E_77DB ∷
    0xAED1_6A4A ∷ 0xD9D6_5ADC ∷ 0x40DF_0B66 ∷ 0x37D8_3BF0 ∷ 0xA9BC_AE53 ∷ 0xDEBB_9EC5 ∷ 0x47B2_CF7F ∷ 0x30B5_FFE9 ∷
    0xBDBD_F21C ∷ 0xCABA_C28A ∷ 0x53B3_9330 ∷ 0x24B4_A3A6 ∷ 0xBAD0_3605 ∷ 0xCDD7_0693 ∷ 0x54DE_5729 ∷ 0x23D9_67BF ∷
    0xB366_7A2E ∷ 0xC461_4AB8 ∷ 0x5D68_1B02 ∷ 0x2A6F_2B94 ∷ 0xB40B_BE37 ∷ 0xC30C_8EA1 ∷ 0x5A05_DF1B ∷ 0x2D02_EF8D ∷ []

pub tabled : Tabled table
unfolding table right crc_bits crc_bit polynomial
tabled = record { entry = λ k h. right_at table 0 refl k h ∙ ap (crc_bits 8) (zero-add k) }
