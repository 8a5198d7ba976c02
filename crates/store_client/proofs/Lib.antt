pub mod Likes
