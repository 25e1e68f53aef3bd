-- Four sheets of several blocks with the pivots and the solution that tools/block_list.py works out for them, from document 01 and in Python's doubles.
-- In each the sorted order is not the sheet's, and every operation rounds.
use Rattle.std.specs.Prelude.{ℕ, List, [], ◌∷◌}
use Prim.Native.String.{String}

-- two blocks, the second a packed triangle
abbrev pub dense_input : List String
dense_input =
    "size 40 2 5 2 1"
    ∷ "block 2 1"
    ∷ "block 3 1"
    ∷ "zz 0 0 400e72b020c49ba6"
    ∷ "zz 0 2 3fd374bc6a7ef9db"
    ∷ "zz 0 3 3fe3df3b645a1cac"
    ∷ "zz 0 4 3fbf7ced916872b0"
    ∷ "zz 1 1 40202b851eb851ec"
    ∷ "zz 1 2 3fdfbe76c8b43958"
    ∷ "zz 1 3 3fe7645a1cac0831"
    ∷ "zz 1 4 3fe89ba5e353f7cf"
    ∷ "zz 2 0 3fd374bc6a7ef9db"
    ∷ "zz 2 1 3fdfbe76c8b43958"
    ∷ "zz 2 2 401e54fdf3b645a2"
    ∷ "zz 3 0 3fe3df3b645a1cac"
    ∷ "zz 3 1 3fe7645a1cac0831"
    ∷ "zz 3 3 4016c9ba5e353f7d"
    ∷ "zz 4 0 3fbf7ced916872b0"
    ∷ "zz 4 1 3fe89ba5e353f7cf"
    ∷ "zz 4 4 400c810624dd2f1b"
    ∷ "zx 0 0 bfc126e978d4fdf4"
    ∷ "zx 0 1 3fe0cccccccccccd"
    ∷ "zx 1 0 bfefdf3b645a1cac"
    ∷ "zx 1 1 bfbbe76c8b439581"
    ∷ "zx 2 0 3fdc5a1cac083127"
    ∷ "zx 2 1 bfe15810624dd2f2"
    ∷ "zx 3 0 3fec83126e978d50"
    ∷ "zx 3 1 3fe9b22d0e560419"
    ∷ "zx 4 0 bfee0c49ba5e353f"
    ∷ "zx 4 1 bfee5e353f7ced91"
    ∷ "zy 0 3fb53f7ced916873"
    ∷ "zy 1 3fec189374bc6a7f"
    ∷ "zy 2 bfce76c8b4395810"
    ∷ "zy 3 bfe224dd2f1a9fbe"
    ∷ "zy 4 bfc3f7ced916872b"
    ∷ "xx 0 0 40201db22d0e5604"
    ∷ "xx 1 0 bfe1d2f1a9fbe76d"
    ∷ "xx 1 1 4021c083126e978d"
    ∷ "xy 0 bf80624dd2f1a9fc"
    ∷ "xy 1 bfe116872b020c4a"
    ∷ "yy 40364f1a9fbe76c9"
    ∷ "theta 0 3fe4cccccccccccd"
    ∷ "theta 1 3ff08f5c28f5c28f"
    ∷ []

abbrev pub dense_output : List String
dense_output =
    "pivot 0 0 400829e009c7fc91"
    ∷ "pivot 0 1 400552210338986c"
    ∷ "pivot 0 2 40018ec6d3a67941"
    ∷ "pivot 1 0 3ff9afe7b1050c30"
    ∷ "pivot 1 1 40009d625e811df2"
    ∷ "pivot 2 0 400615d258996baf"
    ∷ "pivot 2 1 40073558b9193733"
    ∷ "pivot 2 2 4012cfaa196fec98"
    ∷ []

abbrev pub dense_solution : List ℕ
dense_solution =
    0x3f89df9976cbb7ae
    ∷ 0xbfaf0bc58c007b80
    ∷ 0x3fa01c974013eed1
    ∷ 0x3fb8faa94a85a267
    ∷ 0xbfa41aeaaf8803bb
    ∷ 0xbfb7f45f9bd529a3
    ∷ 0xbfaff3076797abdf
    ∷ 0x3fa8c9863b325bb8
    ∷ 0x3fc336f860b5909e
    ∷ 0xbfa36cddcd75cfaa
    ∷ 0xbfb724ff9f384fce
    ∷ 0xbfaede718301d8c4
    ∷ 0x400615d258996bae
    ∷ 0xbfd2f4222acd284e
    ∷ 0x40073558b9193733
    ∷ 0x3fa48e2c873e5802
    ∷ 0x3fc2f96149dca9c3
    ∷ 0xbfa10fa5d9ac212b
    ∷ 0xbfb8621a39d4cad7
    ∷ 0xbfa9aacdc1c951e9
    ∷ 0xbfac1ba6be02b700
    ∷ 0xbfc293c4b7b89c15
    ∷ 0x3fad14741f48608c
    ∷ 0x3fc251823febcc02
    ∷ 0xbfc7b5cbfc5c6da8
    ∷ 0x3fbff78732a8b1c5
    ∷ 0x3f48df1dc6f9318c
    ∷ 0xbfb07703961e804f
    ∷ 0x3fbc0fab3505780b
    ∷ 0xbfca62de13068d8e
    ∷ []

-- two blocks, one entry in each column, the second a diagonal
abbrev pub diagonal_input : List String
diagonal_input =
    "size 30 1 5 2 1"
    ∷ "block 2 1"
    ∷ "block 3 1"
    ∷ "zz 0 0 402178d4fdf3b646"
    ∷ "zz 0 2 3fc5810624dd2f1b"
    ∷ "zz 1 1 40215fbe76c8b439"
    ∷ "zz 1 3 3fe60c49ba5e353f"
    ∷ "zz 1 4 3fd6353f7ced9168"
    ∷ "zz 2 0 3fc5810624dd2f1b"
    ∷ "zz 2 2 400ab645a1cac083"
    ∷ "zz 3 1 3fe60c49ba5e353f"
    ∷ "zz 3 3 402006a7ef9db22d"
    ∷ "zz 4 1 3fd6353f7ced9168"
    ∷ "zz 4 4 401c126e978d4fdf"
    ∷ "zx 0 0 3fcb22d0e5604189"
    ∷ "zx 1 0 3fcb645a1cac0831"
    ∷ "zx 2 0 3fc4bc6a7ef9db23"
    ∷ "zx 3 0 bfe5db22d0e56042"
    ∷ "zx 4 0 bfc1cac083126e98"
    ∷ "zy 0 bfcb4395810624dd"
    ∷ "zy 1 3fdc8b4395810625"
    ∷ "zy 2 3fefae147ae147ae"
    ∷ "zy 3 3fecc49ba5e353f8"
    ∷ "zy 4 3fb6872b020c49ba"
    ∷ "xx 0 0 4021c7ae147ae148"
    ∷ "xy 0 bfddb22d0e560419"
    ∷ "yy 40345be76c8b4396"
    ∷ "theta 0 3fd604189374bc6a"
    ∷ "theta 1 3ff0b4395810624e"
    ∷ []

abbrev pub diagonal_output : List String
diagonal_output =
    "pivot 0 0 40013b3145fe6517"
    ∷ "pivot 0 1 4008f584254b86b7"
    ∷ "pivot 0 2 4007870f5cd145fc"
    ∷ "pivot 1 0 3ff6d035dac42cf2"
    ∷ "pivot 1 1 3ff6bd5d30322f6d"
    ∷ "pivot 2 0 4007c30ed684d5c8"
    ∷ "pivot 2 1 4011e3ee14ea843f"
    ∷ []

abbrev pub diagonal_solution : List ℕ
diagonal_solution =
    0xbfa934a8be55f892
    ∷ 0xbf8cd7ccaa1596b2
    ∷ 0x3f972b7c521b31d0
    ∷ 0x3fce14ff773c92b7
    ∷ 0x3fb85c1ee43fdcdc
    ∷ 0x3f82eb358ff11d0d
    ∷ 0xbfa4f622224e3379
    ∷ 0x3fb0d6ac35b77c04
    ∷ 0x3fccd06f4deb8d83
    ∷ 0x3fb7554bb0741931
    ∷ 0x3f821f16dc4421b6
    ∷ 0x4007c30ed684d5c8
    ∷ 0xbfa5d69f6bf104b8
    ∷ 0x3fb040cb682f9013
    ∷ 0x3fcc965b1b7c9ff9
    ∷ 0x3fb8457471b7e3ae
    ∷ 0x3f83e16ab03d007e
    ∷ 0x3fa1d005eeaceb2e
    ∷ 0x3fa7c8e8b16f02c7
    ∷ 0x3fa26efec44fbce7
    ∷ 0xbfb30e5254601bd9
    ∷ 0xbf91ddb877f49eaf
    ∷ []

-- the same with 3 and 7 levels
abbrev pub wide_input : List String
wide_input =
    "size 60 2 10 2 1"
    ∷ "block 3 1"
    ∷ "block 7 1"
    ∷ "zz 0 0 4011a9fbe76c8b44"
    ∷ "zz 1 1 400cf3b645a1cac1"
    ∷ "zz 1 3 3fc395810624dd2f"
    ∷ "zz 1 6 3fe0ed916872b021"
    ∷ "zz 1 9 3fe86a7ef9db22d1"
    ∷ "zz 2 2 4015810624dd2f1b"
    ∷ "zz 2 4 3feab020c49ba5e3"
    ∷ "zz 2 5 3fe6c8b439581062"
    ∷ "zz 2 7 3fce76c8b4395810"
    ∷ "zz 2 8 3fd16872b020c49c"
    ∷ "zz 3 1 3fc395810624dd2f"
    ∷ "zz 3 3 400f70a3d70a3d71"
    ∷ "zz 4 2 3feab020c49ba5e3"
    ∷ "zz 4 4 4015a3d70a3d70a4"
    ∷ "zz 5 2 3fe6c8b439581062"
    ∷ "zz 5 5 401f3645a1cac083"
    ∷ "zz 6 1 3fe0ed916872b021"
    ∷ "zz 6 6 401153f7ced91687"
    ∷ "zz 7 2 3fce76c8b4395810"
    ∷ "zz 7 7 4012a3d70a3d70a4"
    ∷ "zz 8 2 3fd16872b020c49c"
    ∷ "zz 8 8 400d189374bc6a7f"
    ∷ "zz 9 1 3fe86a7ef9db22d1"
    ∷ "zz 9 9 40212147ae147ae1"
    ∷ "zx 0 0 3fe39db22d0e5604"
    ∷ "zx 0 1 3fe33b645a1cac08"
    ∷ "zx 1 0 bfe39db22d0e5604"
    ∷ "zx 1 1 bfd851eb851eb852"
    ∷ "zx 2 0 3fd04189374bc6a8"
    ∷ "zx 2 1 3fddb22d0e560419"
    ∷ "zx 3 0 3fe6b020c49ba5e3"
    ∷ "zx 3 1 3fe851eb851eb852"
    ∷ "zx 4 0 bfea76c8b4395810"
    ∷ "zx 4 1 3fcb22d0e5604189"
    ∷ "zx 5 0 3fd5f3b645a1cac1"
    ∷ "zx 5 1 3f889374bc6a7efa"
    ∷ "zx 6 0 bfe49ba5e353f7cf"
    ∷ "zx 6 1 bfab22d0e5604189"
    ∷ "zx 7 0 bfea45a1cac08312"
    ∷ "zx 7 1 3febced916872b02"
    ∷ "zx 8 0 3fe7645a1cac0831"
    ∷ "zx 8 1 3fb851eb851eb852"
    ∷ "zx 9 0 bfd999999999999a"
    ∷ "zx 9 1 3fea2d0e56041893"
    ∷ "zy 0 3fc28f5c28f5c28f"
    ∷ "zy 1 3fe87ae147ae147b"
    ∷ "zy 2 3fe645a1cac08312"
    ∷ "zy 3 3f916872b020c49c"
    ∷ "zy 4 bfc604189374bc6a"
    ∷ "zy 5 3fc95810624dd2f2"
    ∷ "zy 6 bfc1a9fbe76c8b44"
    ∷ "zy 7 bfe5a9fbe76c8b44"
    ∷ "zy 8 bfd8f5c28f5c28f6"
    ∷ "zy 9 3fe4000000000000"
    ∷ "xx 0 0 40202c083126e979"
    ∷ "xx 1 0 bfed0624dd2f1aa0"
    ∷ "xx 1 1 40228189374bc6a8"
    ∷ "xy 0 bfdc189374bc6a7f"
    ∷ "xy 1 3fb1a9fbe76c8b44"
    ∷ "yy 4038b645a1cac083"
    ∷ "theta 0 3feb2b020c49ba5e"
    ∷ "theta 1 3ffe5604189374bc"
    ∷ []

abbrev pub wide_output : List String
wide_output =
    "pivot 0 0 400f1d8adb940d23"
    ∷ "pivot 0 1 40121677d265f118"
    ∷ "pivot 0 2 40158f3195d17944"
    ∷ "pivot 0 3 401048aaa0666ece"
    ∷ "pivot 0 4 4010da69a002aeb2"
    ∷ "pivot 0 5 400e033be814b23a"
    ∷ "pivot 0 6 40168d8b4530bb1a"
    ∷ "pivot 1 0 40005cad44f16a70"
    ∷ "pivot 1 1 3ffdfd87a6718c2b"
    ∷ "pivot 1 2 4001614a92cce01d"
    ∷ "pivot 2 0 4005a1a62f2d6e13"
    ∷ "pivot 2 1 40077abab87bca9c"
    ∷ "pivot 2 2 4013b69d7cea3df9"
    ∷ []

abbrev pub wide_solution : List ℕ
wide_solution =
    0xbfb080778dda812f
    ∷ 0x3f84bad3dbad8970
    ∷ 0x3f9f7beea96b8ddb
    ∷ 0x3fc24ce9f7392f8a
    ∷ 0x3fbe8a1077ee441b
    ∷ 0x3f802033f98cf15d
    ∷ 0xbfad6dc5efdda99a
    ∷ 0x3f911ce51442b954
    ∷ 0xbfac46c4a0dbe806
    ∷ 0xbfc3e244e05d5a84
    ∷ 0xbfb89ab01cf3f98b
    ∷ 0x3fabe5de81d90321
    ∷ 0x3fa28ab89405729a
    ∷ 0x3fc58e27c7d4649f
    ∷ 0x3fc1fc47360bde89
    ∷ 0x3f7102a500c20a7c
    ∷ 0xbf9f0b04a47300ae
    ∷ 0x3f820d32746d451d
    ∷ 0xbf9dd3d4d0918e23
    ∷ 0xbfb4f97b6c21aa03
    ∷ 0xbfa9f42f82ff3270
    ∷ 0x3f9d6d9e05308715
    ∷ 0x4005a1a62f2d6e13
    ∷ 0xbfd743175fe19ca3
    ∷ 0x40077abab87bca9d
    ∷ 0x3f9e22bfc8956a5d
    ∷ 0x3fc67706520eaede
    ∷ 0x3fc1945115c5702a
    ∷ 0xbf47cfbd9475c25c
    ∷ 0xbf99907dbf9beb0c
    ∷ 0x3f7ebcd657125ece
    ∷ 0xbf9966a9dd076e79
    ∷ 0xbfb344fe31222675
    ∷ 0xbfad1648254b91f4
    ∷ 0x3f9f3a3962c25a7b
    ∷ 0x3fbfd9b11868f381
    ∷ 0xbfc067a499d6af54
    ∷ 0x3faebe907a713446
    ∷ 0x3fb7485f87631fb1
    ∷ 0xbfb4a3ce2faf9a8a
    ∷ 0x3f947f63ff5c02eb
    ∷ 0xbfb12ce75f242ea2
    ∷ 0xbfb6c79f280955be
    ∷ 0x3fb8bb41cedd7afb
    ∷ 0xbf935be4a9958729
    ∷ 0x3fbf3a138704c1a3
    ∷ 0xbfbd34f3b9a0250d
    ∷ 0x3fb1a7845ccc00b8
    ∷ 0x3fb8dc439fd5cfed
    ∷ 0x3f8efc4bfdad6397
    ∷ 0xbf5fbea872b61d0a
    ∷ 0xbf2a64c1f6f4ac8d
    ∷ 0x3fb761232ac3dded
    ∷ 0x3f85d0ece28b6b39
    ∷ 0x3fab3c6572438196
    ∷ []

-- three blocks, equal ones in sheet order
abbrev pub three_input : List String
three_input =
    "size 25 1 5 3 1"
    ∷ "block 1 1"
    ∷ "block 2 1"
    ∷ "block 2 1"
    ∷ "zz 0 0 4011b645a1cac083"
    ∷ "zz 0 2 3fe2a7ef9db22d0e"
    ∷ "zz 0 4 3fd3a5e353f7ced9"
    ∷ "zz 1 1 40190f5c28f5c28f"
    ∷ "zz 1 3 3fc374bc6a7ef9db"
    ∷ "zz 1 4 3fd25e353f7ced91"
    ∷ "zz 2 0 3fe2a7ef9db22d0e"
    ∷ "zz 2 2 4014e147ae147ae1"
    ∷ "zz 2 3 3fbc6a7ef9db22d1"
    ∷ "zz 3 1 3fc374bc6a7ef9db"
    ∷ "zz 3 2 3fbc6a7ef9db22d1"
    ∷ "zz 3 3 401b04189374bc6a"
    ∷ "zz 4 0 3fd3a5e353f7ced9"
    ∷ "zz 4 1 3fd25e353f7ced91"
    ∷ "zz 4 4 40200ccccccccccd"
    ∷ "zx 0 0 3fefb645a1cac083"
    ∷ "zx 1 0 bfae353f7ced9168"
    ∷ "zx 2 0 3fe589374bc6a7f0"
    ∷ "zx 3 0 bfa810624dd2f1aa"
    ∷ "zx 4 0 3fd1cac083126e98"
    ∷ "zy 0 bfe65e353f7ced91"
    ∷ "zy 1 3fd147ae147ae148"
    ∷ "zy 2 3fe78d4fdf3b645a"
    ∷ "zy 3 3fa78d4fdf3b645a"
    ∷ "zy 4 3fdee978d4fdf3b6"
    ∷ "xx 0 0 4022af9db22d0e56"
    ∷ "xy 0 bfebe76c8b439581"
    ∷ "yy 403b94fdf3b645a2"
    ∷ "theta 0 3ff3ef9db22d0e56"
    ∷ "theta 1 3fe90624dd2f1aa0"
    ∷ "theta 2 3fd6666666666666"
    ∷ []

abbrev pub three_output : List String
three_output =
    "pivot 0 0 400195804aadc475"
    ∷ "pivot 0 1 4000613ac0aacabb"
    ∷ "pivot 1 0 3ff5a0195dbdcfa6"
    ∷ "pivot 1 1 3ff6862e2b96679b"
    ∷ "pivot 2 0 4006538a05c2fcaa"
    ∷ "pivot 3 0 400821e7c769c57d"
    ∷ "pivot 3 1 4014e556edd398f2"
    ∷ []

abbrev pub three_solution : List ℕ
three_solution =
    0xbfb6b941fcd0f9d7
    ∷ 0xbfc18ecde4e02068
    ∷ 0x3fa085cea00ade2c
    ∷ 0x3fc0590fc15e15be
    ∷ 0x3f58fb9402f15ccc
    ∷ 0x3fa1187e4fa90340
    ∷ 0xbfbc2ec62c65b2fe
    ∷ 0x3fa520f5e4e207cf
    ∷ 0x3fc4e7bdb912d470
    ∷ 0x3f71d84526ac66db
    ∷ 0x3fb86c2228a84dca
    ∷ 0x400821e7c769c57e
    ∷ 0xbfbf8ecb10fa666f
    ∷ 0x3fa59679e88524a3
    ∷ 0x3fc3b4e854d96168
    ∷ 0x3f75abfb13fa2dff
    ∷ 0x3fb786b636263b93
    ∷ 0x3fc302edb9eb6dc9
    ∷ 0xbf84afa0a7e3a487
    ∷ 0x3fbb0171c8001f01
    ∷ 0xbf858e9b5bbc33a0
    ∷ 0x3fa4313b7b3aa8a7
    ∷ []

-- the solution of `wide` by the rules for a sparse pair
abbrev pub sparse_solution : List ℕ
sparse_solution =
    0xbfb080778dda812f
    ∷ 0x3f84bad3dbad896f
    ∷ 0x3f9f7beea96b8ddb
    ∷ 0x3fc24ce9f7392f8a
    ∷ 0x3fbe8a1077ee441c
    ∷ 0x3f802033f98cf15d
    ∷ 0xbfad6dc5efdda99a
    ∷ 0x3f911ce51442b953
    ∷ 0xbfac46c4a0dbe806
    ∷ 0xbfc3e244e05d5a84
    ∷ 0xbfb89ab01cf3f98b
    ∷ 0x3fabe5de81d90321
    ∷ 0x3fa28ab89405729a
    ∷ 0x3fc58e27c7d4649f
    ∷ 0x3fc1fc47360bde8a
    ∷ 0x3f7102a500c20a7c
    ∷ 0xbf9f0b04a47300ae
    ∷ 0x3f820d32746d451c
    ∷ 0xbf9dd3d4d0918e23
    ∷ 0xbfb4f97b6c21aa03
    ∷ 0xbfa9f42f82ff3270
    ∷ 0x3f9d6d9e05308715
    ∷ 0x4005a1a62f2d6e13
    ∷ 0xbfd743175fe19ca4
    ∷ 0x40077abab87bca9d
    ∷ 0x3f9e22bfc8956a5d
    ∷ 0x3fc67706520eaede
    ∷ 0x3fc1945115c5702b
    ∷ 0xbf47cfbd9475c25c
    ∷ 0xbf99907dbf9beb0c
    ∷ 0x3f7ebcd657125ecd
    ∷ 0xbf9966a9dd076e79
    ∷ 0xbfb344fe31222675
    ∷ 0xbfad1648254b91f4
    ∷ 0x3f9f3a3962c25a7b
    ∷ 0x3fbfd9b11868f381
    ∷ 0xbfc067a499d6af54
    ∷ 0x3faebe907a713448
    ∷ 0x3fb7485f87631fb1
    ∷ 0xbfb4a3ce2faf9a8a
    ∷ 0x3f947f63ff5c02eb
    ∷ 0xbfb12ce75f242ea2
    ∷ 0xbfb6c79f280955be
    ∷ 0x3fb8bb41cedd7afb
    ∷ 0xbf935be4a9958729
    ∷ 0x3fbf3a138704c1a3
    ∷ 0xbfbd34f3b9a0250d
    ∷ 0x3fb1a7845ccc00b7
    ∷ 0x3fb8dc439fd5cfed
    ∷ 0x3f8efc4bfdad6399
    ∷ 0xbf5fbea872b61d07
    ∷ 0xbf2a64c1f6f4ac8d
    ∷ 0x3fb761232ac3dded
    ∷ 0x3f85d0ece28b6b39
    ∷ 0x3fab3c6572438196
    ∷ []
