pub mod Wish
pub mod WishLaws
pub mod WishTheorems
pub mod RaisingLaws
pub mod PlainWishLaws
pub mod LeapLaws
